-- Modules and designs are printed so that they are read again.
use Rattle.std.proofs.Common.{◌≡◌, ℕ, ◌+◌, List, [], ◌∷◌, ◌++◌, map, codes, refl, sym, ap, subst, ◌∙◌, append-nil, append_assoc}
use Rattle.std.specs.List.{AllByRecursion}
use Rattle.lola_tree.specs.declared.module.Const.{Const}
use Rattle.lola_tree.specs.declared.module.Local.{Local}
use Rattle.lola_tree.specs.Tree.{ModuleTree, SourceTree}
use Rattle.lola_tree.specs.Places.{placeless_const, placeless_module}
use Rattle.lola_tree.specs.Print.{consts_text, title_text, module_text, modules_text, source_text}
use Rattle.lola_scan.specs.declared.token.Token.{Token}
use Rattle.lola_scan.specs.Tokens.{Spells}
use Rattle.lola_parse.specs.declared.symbol.Symbol.TheVariants as s
use Rattle.lola_parse.specs.declared.symbol.Language.TheVariants.{Design}
use Rattle.lola_parse.specs.Symbols.{Item, items_of}
use Rattle.lola_parse.specs.Grammar.{Passes}
use Rattle.lola_parse.specs.Design.{Declarations, with_constants, OneModule, one_module, MoreModules, no_module, next_module, SpellsSource, spells}
use Rattle.lola_reread.specs.Again.{IsDesignAgain}
use Rattle.lola_reread.proofs.Words.{SpacedLaw, BlankLaw, IsLexed, lexed, words_text}
use Rattle.lola_reread.proofs.GoodItems.{AllGood, items_good}
use Rattle.lola_reread.proofs.Prints.{Prints, Then, ◌and◌, read_as, nothing, mark, reserved, named, IsName}
use Rattle.lola_reread.proofs.Levels.{open_paren, close_paren, past_good}
use Rattle.lola_reread.proofs.Expressions.{past_name}
use Rattle.lola_reread.proofs.Lists.{grown, grown_none}
use Rattle.lola_reread.proofs.Statements.{NameAgain, semicolon, StmtPrinted, begun_done, BodyAgain, BodyPrinted, body_printed}
use Rattle.lola_reread.proofs.Ports.{PortGood, ports_done, PortsAgain, PortsPrinted, ports_printed, ConstGood, MoreConstsAgain, more_consts_printed}
use Rattle.lola_reread.proofs.Locals.{LocalGood, declarations_done, HeadedAgain, LocalsPrinted, locals_printed}

-- the constants before any locals
abbrev ConstsAgain : List Const → List Item → List Item → Type 0
ConstsAgain consts all rest =
    (again : List Const) × (((locals : List Local) (last : List Item) → Declarations again [] rest again locals last → Declarations [] [] all again locals last)
    × (map placeless_const again ≡ map placeless_const consts))

record ConstsPrinted (consts : List Const) : Type 0 where
  pub count : ℕ
  pub printed : Prints (consts_text (codes "CONST ") consts) count (ConstsAgain consts)

consts_printed : (consts : List Const) → AllByRecursion ConstGood consts → ConstsPrinted consts
consts_printed [] each = record {
  count = 0;
  printed = read_as {Q = ConstsAgain []} (λ xs ys h. ([], ((λ locals last d. subst (λ is. Declarations [] [] is [] locals last) (sym h) d), refl))) nothing;
}
consts_printed (c ∷ added) each = record {
  count = _;
  printed = read_as {Q = ConstsAgain (c ∷ added)} again (reserved 67 (codes "ONST") 32 s.Const refl refl refl refl and (more_consts_printed (c ∷ added) each).printed);
}
  where
    again : (all rest : List Item) → Then (Passes s.Const) (MoreConstsAgain (c ∷ added)) all rest → ConstsAgain (c ∷ added) all rest
    again all rest (m1, ((p, k), more)) = let go = more [] in (go.0, ((λ locals last d. with_constants m1 rest k go.1.0 d), go.1.1))

abbrev pub ModuleAgain : ModuleTree → List Item → List Item → Type 0
ModuleAgain m all rest = (again : ModuleTree) × (OneModule all again rest × (placeless_module again ≡ placeless_module m))

pub record ModulePrinted (m : ModuleTree) : Type 0 where
  pub count : ℕ
  pub printed : Prints (module_text m) count (ModuleAgain m)

pub record ModuleGood (m : ModuleTree) : Type 0 where
  pub name : IsName m.name
  pub ports : AllByRecursion PortGood m.ports
  pub consts : AllByRecursion ConstGood m.consts
  pub locals : AllByRecursion LocalGood m.locals
  pub body : AllByRecursion StmtPrinted m.body
  pub ends : IsName m.ends.name

abbrev TitleAgain : ModuleTree → List Item → List Item → Type 0
TitleAgain m = Then (Passes s.Module) (Then (NameAgain m.name) (Then (Passes s.OpenParen) (Then (PortsAgain m.ports) (Then (Passes s.CloseParen) (Passes s.Semicolon)))))

module_printed : (m : ModuleTree) → ModuleGood m → ModulePrinted m
module_printed m good = record {
  count = _;
  printed = read_as {Q = ModuleAgain m} again
      (title and (consts.printed and (locals.printed and (body.printed and (reserved 69 (codes "ND") 32 s.End refl refl refl refl and (named m.ends.name good.ends and mark (codes ".") 10 s.Dot refl refl refl))))));
}
  where
    ports : PortsPrinted m.ports
    ports = ports_printed m.ports good.ports

    consts : ConstsPrinted m.consts
    consts = consts_printed m.consts good.consts

    locals : LocalsPrinted m.locals
    locals = locals_printed m.locals good.locals

    body : BodyPrinted m.body
    body = body_printed m.body good.body

    title : Prints (title_text m) (1 + (1 + (1 + (ports.count + 2)))) (TitleAgain m)
    title = reserved 77 (codes "ODULE") 32 s.Module refl refl refl refl and (named m.name good.name and (open_paren and (ports.printed and (close_paren and semicolon))))

    again : (all rest : List Item) →
        Then (TitleAgain m) (Then (ConstsAgain m.consts) (Then (HeadedAgain m.locals) (Then (BodyAgain m.body) (Then (Passes s.End) (Then (NameAgain m.ends.name) (Passes s.Dot)))))) all rest →
        ModuleAgain m all rest
    again all rest (
      m1,
      (
        (t1, ((p, md), (t2, ((at, nm), (t3, ((q, op), (t4, ((ports', (pd, sp)), (t5, ((r, cp), (t, semi))))))))))),
        (m2, ((consts', (declared, sc)), (m3, (local_read, (m4, ((body', (bg, sb)), (m5, ((e, end), (m6, ((ea, en), (d, dt))))))))))),
      ),
    ) =
        let locals' = local_read consts' [] in
        let again : ModuleTree = record {
          name = m.name;
          ports = ports';
          consts = consts';
          locals = locals'.0;
          body = body';
          ends = record { name = m.ends.name; at = ea };
          at = at;
        } in (
          again,
          (
            one_module {title = record { name = m.name; at = at }} {ends = record { name = m.ends.name; at = ea }} t1 t2 t3 t4 t5 m1 m3 m4 m5 m6 md nm op pd cp semi
                (declared locals'.0 m3 locals'.1.0) bg end en dt refl,
            rw (sp, sc, sb, locals'.1.1) refl,
          ),
        )

module_done : (m : ModuleTree) (all rest : List Item) → OneModule all m rest → AllGood all → ModulePrinted m × AllGood rest
module_done m all rest
    (one_module {title = title} {ends = ends} {ports = ports} {consts = consts} {locals = locals} {body = body} first paren second close semi third fourth fifth sixth dot md nm op pd cp sm dc bg en ends_name dt is) good =
    let name = past_name nm (past_good md good) in
    let port = ports_done ports second close pd (past_good op name.1.0) in
    let decl = declarations_done [] consts [] locals third fourth dc tt tt (past_good sm (past_good cp port.1)) in
    let stmts = begun_done body fourth fifth bg decl.1.1 in
    let last = past_name ends_name (past_good en stmts.1) in
    let made : ModuleTree = record { name = title.name; ports = ports; consts = consts; locals = locals; body = body; ends = ends; at = title.at } in
    (subst ModulePrinted (sym is) (module_printed made (record { name = name.0; ports = port.0; consts = decl.0; locals = decl.1.0; body = stmts.0; ends = last.0 })), past_good dt last.1.0)

record ModulesDone (before modules : List ModuleTree) (rest : List Item) : Type 0 where
  pub added : List ModuleTree
  pub is : modules ≡ before ++ added
  pub each : AllByRecursion ModulePrinted added
  pub good : AllGood rest

more_modules_done : (before modules : List ModuleTree) (all rest : List Item) → MoreModules before all modules rest → AllGood all → ModulesDone before modules rest
more_modules_done before modules all rest (no_module same none) good =
    record { added = []; is = same ∙ sym (append-nil before); each = tt; good = subst AllGood (sym none) good }
more_modules_done before modules all rest (next_module {m = m} behind one more) good =
    let d = module_done m all behind one good in
    let ds = more_modules_done (before ++ m ∷ []) modules behind rest more d.1 in
    record { added = m ∷ ds.added; is = ds.is ∙ append_assoc before (m ∷ []) ds.added; each = (d.0, ds.each); good = ds.good }

-- the modules behind some
abbrev MoreModulesAgain : List ModuleTree → List Item → List Item → Type 0
MoreModulesAgain added all rest =
    (before : List ModuleTree) → (again : List ModuleTree) × (MoreModules before all again rest × (map placeless_module again ≡ map placeless_module before ++ map placeless_module added))

record MoreModulesPrinted (added : List ModuleTree) : Type 0 where
  pub count : ℕ
  pub printed : Prints (modules_text added) count (MoreModulesAgain added)

one_module_more : (m : ModuleTree) (added : List ModuleTree) → ModulePrinted m → MoreModulesPrinted added → MoreModulesPrinted (m ∷ added)
one_module_more m added one more = record { count = _; printed = read_as {Q = MoreModulesAgain (m ∷ added)} again (one.printed and more.printed) }
  where
    again : (all rest : List Item) → Then (ModuleAgain m) (MoreModulesAgain added) all rest → MoreModulesAgain (m ∷ added) all rest
    again all rest (m1, ((m', (read, same)), others)) = λ before.
        let go = others (before ++ m' ∷ []) in
        (go.0, (next_module m1 read go.1.0, grown placeless_module before added go.0 m' m go.1.1 same))

more_modules_printed : (added : List ModuleTree) → AllByRecursion ModulePrinted added → MoreModulesPrinted added
more_modules_printed [] each = record {
  count = 0;
  printed = read_as {Q = MoreModulesAgain []} (λ xs ys h before. (before, (no_module refl (sym h), grown_none placeless_module before))) nothing;
}
more_modules_printed (m ∷ added) each = one_module_more m added each.0 (more_modules_printed added each.1)

-- a design
abbrev SourceAgain : List ModuleTree → List Item → List Item → Type 0
SourceAgain modules all rest = (again : SourceTree) × ((rest ≡ [] → SpellsSource all again) × (map placeless_module again.modules ≡ map placeless_module modules))

source_printed : (m : ModuleTree) (added : List ModuleTree) (one : ModulePrinted m) (more : MoreModulesPrinted added) →
    Prints (modules_text (m ∷ added)) (one.count + more.count) (SourceAgain (m ∷ added))
source_printed m added one more = read_as {Q = SourceAgain (m ∷ added)} again (one.printed and more.printed)
  where
    again : (all rest : List Item) → Then (ModuleAgain m) (MoreModulesAgain added) all rest → SourceAgain (m ∷ added) all rest
    again all rest (m1, ((m', (read, same)), others)) =
        let go = others (m' ∷ []) in (
          record { modules = go.0 },
          ((λ none. spells m1 read (subst (λ is. MoreModules (m' ∷ []) m1 go.0 is) none go.1.0)), go.1.1 ∙ ap (λ x. x ∷ map placeless_module added) same),
        )

pub design_again : SpacedLaw → BlankLaw → (text : List ℕ) (tokens : List Token) (S : SourceTree) → Spells 0 text tokens → SpellsSource (items_of Design text tokens) S → IsDesignAgain (source_text S) S
design_again spaced blanks text tokens S spelled (spells {m = m} behind one more) = record {
  tokens = lex.tokens;
  spells = subst (λ xs. Spells 0 xs lex.tokens) same_text lex.spells;
  again = again.0;
  spelled = subst (λ xs. SpellsSource (items_of Design xs lex.tokens) again.0) same_text (again.1.0 refl);
  same = ap (λ (ms : List ModuleTree). let r : SourceTree = record { modules = ms } in r) (again.1.1 ∙ ap (map placeless_module) (sym ds.is));
}
  where
    d : ModulePrinted m × AllGood behind
    d = module_done m (items_of Design text tokens) behind one (items_good text tokens spelled)

    ds : ModulesDone (m ∷ []) S.modules []
    ds = more_modules_done (m ∷ []) S.modules behind [] more d.1

    later : MoreModulesPrinted ds.added
    later = more_modules_printed ds.added ds.each

    p : Prints (modules_text (m ∷ ds.added)) (d.0.count + later.count) (SourceAgain (m ∷ ds.added))
    p = source_printed m ds.added d.0 later

    lex : IsLexed [] p.words
    lex = lexed spaced blanks [] p.words p.good

    again : SourceAgain (m ∷ ds.added) (items_of Design ([] ++ words_text p.words) lex.tokens) []
    again = p.read (items_of Design ([] ++ words_text p.words) lex.tokens) [] lex.shown

    same_text : words_text p.words ≡ source_text S
    same_text = p.spelled ∙ ap modules_text (sym ds.is)
