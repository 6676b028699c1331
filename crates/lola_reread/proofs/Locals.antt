-- Registers, variables and instances are printed so that they are read again.
use Rattle.std.proofs.Common.{◌≡◌, ℕ, true, List, [], ◌∷◌, ◌++◌, map, codes, refl, sym, ap, ap₂, subst, ◌∙◌, inl, inr}
use Rattle.std.proofs.lemmas.Bool.{cases_Bool}
use Rattle.std.proofs.lemmas.Slice.Eq.{bytes_eq-Decides}
use Rattle.std.specs.List.{AllByRecursion}
use Rattle.lola_bits.proofs.All.{all_append, all_map}
use Rattle.lola_tree.specs.declared.named.Named.{Named}
use Rattle.lola_tree.specs.declared.named.Shape.{Shape}
use Rattle.lola_tree.specs.declared.module.Const.{Const}
use Rattle.lola_tree.specs.declared.module.LocalKind.{LocalKind}
use Rattle.lola_tree.specs.declared.module.LocalKind.TheVariants.{Reg, Var, Inst}
use Rattle.lola_tree.specs.declared.module.Local.{Local}
use Rattle.lola_tree.specs.Places.{placeless_kind, placeless_local}
use Rattle.lola_tree.specs.Print.{name_text, head_text, kind_text, local_text, shares_head, more_locals, locals_text}
use Rattle.lola_parse.specs.declared.symbol.Symbol.TheVariants as s
use Rattle.lola_parse.specs.Symbols.{Item}
use Rattle.lola_parse.specs.Grammar.{Passes}
use Rattle.lola_parse.specs.Design.{local_of, RegisterRow, register_row, MoreRegisters, no_register, next_register, Registers, registers, VariableKind, variable, instance, VariableRow, variable_row, MoreVariables, no_variable, next_variable, Declarations, no_declaration, with_constants, with_registers, with_variables}
use Rattle.lola_reread.proofs.GoodItems.{AllGood}
use Rattle.lola_reread.proofs.Prints.{Prints, Then, ◌and◌, read_as, retext, nothing, reserved, named, IsName}
use Rattle.lola_reread.proofs.Levels.{colon, open_paren, close_paren, past_good}
use Rattle.lola_reread.proofs.Expressions.{past_name}
use Rattle.lola_reread.proofs.Lists.{grown, grown_none}
use Rattle.lola_reread.proofs.Shapes.{ShapeAgain, ShapePrinted, shape_done}
use Rattle.lola_reread.proofs.Statements.{NameAgain, semicolon}
use Rattle.lola_reread.proofs.Ports.{HasName, names_done, one_listed, ConstGood, more_consts_done}

abbrev pub KindGood : LocalKind → Type 0
KindGood (Reg clock t) = IsName clock.name × ShapePrinted t
KindGood (Var t) = ShapePrinted t
KindGood (Inst of) = IsName of.name

pub record LocalGood (l : Local) : Type 0 where
  pub name : IsName l.name
  pub kind : KindGood l.kind

added_good : (kind : LocalKind) → KindGood kind → (before : List Local) (names : List Named) → AllByRecursion LocalGood before → AllByRecursion HasName names →
    AllByRecursion LocalGood (before ++ map (local_of kind) names)
added_good kind good before names each all =
    all_append LocalGood before (map (local_of kind) names) each (all_map HasName LocalGood (local_of kind) (λ n name. record { name = name; kind = good }) names all)

register_row_done : (clock : Named) → IsName clock.name → (before locals : List Local) (all rest : List Item) → RegisterRow clock before all locals rest → AllByRecursion LocalGood before → AllGood all →
    AllByRecursion LocalGood locals × AllGood rest
register_row_done clock name before locals all rest (register_row {t = t} {names = names} mid behind semi list stands shaped ends is) each good =
    let d = names_done names all mid list good in
    let e = shape_done t behind semi shaped (past_good stands d.1) in
    (subst (AllByRecursion LocalGood) (sym is) (added_good (Reg clock t) (name, e.0) before names each d.0), past_good ends e.1)

more_registers_done : (clock : Named) → IsName clock.name → (before locals : List Local) (all rest : List Item) → MoreRegisters clock before all locals rest → AllByRecursion LocalGood before → AllGood all →
    AllByRecursion LocalGood locals × AllGood rest
more_registers_done clock name before locals all rest (no_register same none) each good = (subst (AllByRecursion LocalGood) (sym same) each, subst AllGood (sym none) good)
more_registers_done clock name before locals all rest (next_register {longer = longer} behind row more) each good =
    let d = register_row_done clock name before longer all behind row each good in
    more_registers_done clock name longer locals behind rest more d.0 d.1

registers_done : (before locals : List Local) (all rest : List Item) → Registers before all locals rest → AllByRecursion LocalGood before → AllGood all → AllByRecursion LocalGood locals × AllGood rest
registers_done before locals all rest (registers {longer = longer} {clock = clock} first close second behind opens name closes row more) each good =
    let n = past_name name (past_good opens good) in
    let d = register_row_done clock n.0 before longer second behind row each (past_good closes n.1.0) in
    more_registers_done clock n.0 longer locals behind rest more d.0 d.1

kind_done : (kind : LocalKind) (all rest : List Item) → VariableKind all kind rest → AllGood all → KindGood kind × AllGood rest
kind_done kind all rest (variable t shaped is) good = let d = shape_done t all rest shaped good in (subst KindGood (sym is) d.0, d.1)
kind_done kind all rest (instance n name is) good = let d = past_name name good in (subst KindGood (sym is) d.0, d.1.0)

variable_row_done : (before locals : List Local) (all rest : List Item) → VariableRow before all locals rest → AllByRecursion LocalGood before → AllGood all → AllByRecursion LocalGood locals × AllGood rest
variable_row_done before locals all rest (variable_row {kind = kind} {names = names} mid behind semi list stands of ends is) each good =
    let d = names_done names all mid list good in
    let e = kind_done kind behind semi of (past_good stands d.1) in
    (subst (AllByRecursion LocalGood) (sym is) (added_good kind e.0 before names each d.0), past_good ends e.1)

more_variables_done : (before locals : List Local) (all rest : List Item) → MoreVariables before all locals rest → AllByRecursion LocalGood before → AllGood all → AllByRecursion LocalGood locals × AllGood rest
more_variables_done before locals all rest (no_variable same none) each good = (subst (AllByRecursion LocalGood) (sym same) each, subst AllGood (sym none) good)
more_variables_done before locals all rest (next_variable {longer = longer} behind row more) each good =
    let d = variable_row_done before longer all behind row each good in
    more_variables_done longer locals behind rest more d.0 d.1

pub declarations_done : (consts consts' : List Const) (locals locals' : List Local) (all rest : List Item) → Declarations consts locals all consts' locals' rest → AllByRecursion ConstGood consts →
    AllByRecursion LocalGood locals → AllGood all → AllByRecursion ConstGood consts' × (AllByRecursion LocalGood locals' × AllGood rest)
declarations_done consts consts' locals locals' all rest (no_declaration same same' none) c l good =
    (subst (AllByRecursion ConstGood) (sym same) c, (subst (AllByRecursion LocalGood) (sym same') l, subst AllGood (sym none) good))
declarations_done consts consts' locals locals' all rest (with_constants {longer = longer} first behind stands one more) c l good =
    let d = more_consts_done consts longer first behind one c (past_good stands good) in
    declarations_done longer consts' locals locals' behind rest more d.0 l d.1
declarations_done consts consts' locals locals' all rest (with_registers {longer = longer} first behind stands one more) c l good =
    let d = registers_done locals longer first behind one l (past_good stands good) in
    declarations_done consts consts' longer locals' behind rest more c d.0 d.1
declarations_done consts consts' locals locals' all rest (with_variables {longer = longer} first behind stands one more) c l good =
    let d = more_variables_done locals longer first behind one l (past_good stands good) in
    declarations_done consts consts' longer locals' behind rest more c d.0 d.1

local_at : LocalKind → List ℕ → ℕ → Local
local_at kind name at = record { kind = kind; name = name; at = at }

-- a row of one name, behind any others
abbrev VariableAgain : LocalKind → List ℕ → List Item → List Item → Type 0
VariableAgain kind name all rest =
    (before : List Local) → (again : Local) × (VariableRow before all (before ++ again ∷ []) rest × (placeless_local again ≡ record { kind = placeless_kind kind; name = name; at = 0 }))

abbrev RowAgain : LocalKind → List ℕ → List Item → List Item → Type 0
RowAgain (Reg clock t) name all rest =
    (clock' : Named) → clock'.name ≡ clock.name → (before : List Local) →
    (again : Local) × (RegisterRow clock' before all (before ++ again ∷ []) rest × (placeless_local again ≡ record { kind = placeless_kind (Reg clock t); name = name; at = 0 }))
RowAgain (Var t) name all rest = VariableAgain (Var t) name all rest
RowAgain (Inst of) name all rest = VariableAgain (Inst of) name all rest

record RowPrinted (kind : LocalKind) (name : List ℕ) : Type 0 where
  pub count : ℕ
  pub printed : Prints (name_text name ++ (codes ": " ++ (kind_text kind ++ codes ";\n"))) count (RowAgain kind name)

row_printed : (kind : LocalKind) (name : List ℕ) → IsName name → KindGood kind → RowPrinted kind name
row_printed (Reg clock t) name good kind = record { count = _; printed = read_as {Q = RowAgain (Reg clock t) name} again (named name good and (colon and (kind.1.printed and semicolon))) }
  where
    again : (all rest : List Item) → Then (NameAgain name) (Then (Passes s.Colon) (Then (ShapeAgain t) (Passes s.Semicolon))) all rest → RowAgain (Reg clock t) name all rest
    again all rest (m1, ((at, n), (m2, ((c, co), (m3, ((t', (shaped, same)), (q, semi))))))) = λ clock' e before.
        let one : Named = record { name = name; at = at } in (
          local_of (Reg clock' t') one,
          (
            register_row {names = one ∷ []} m1 m2 m3 (one_listed one all m1 n) co shaped semi refl,
            ap₂ (λ (x : List ℕ) (y : Shape). let r : Local = record { kind = Reg (record { name = x; at = 0 }) y; name = name; at = 0 } in r) e same,
          ),
        )
row_printed (Var t) name good kind = record { count = _; printed = read_as {Q = RowAgain (Var t) name} again (named name good and (colon and (kind.printed and semicolon))) }
  where
    again : (all rest : List Item) → Then (NameAgain name) (Then (Passes s.Colon) (Then (ShapeAgain t) (Passes s.Semicolon))) all rest → RowAgain (Var t) name all rest
    again all rest (m1, ((at, n), (m2, ((c, co), (m3, ((t', (shaped, same)), (q, semi))))))) = λ before.
        let one : Named = record { name = name; at = at } in (
          local_of (Var t') one,
          (
            variable_row {names = one ∷ []} m1 m2 m3 (one_listed one all m1 n) co (variable t' shaped refl) semi refl,
            ap (λ (y : Shape). let r : Local = record { kind = Var y; name = name; at = 0 } in r) same,
          ),
        )
row_printed (Inst of) name good kind = record { count = _; printed = read_as {Q = RowAgain (Inst of) name} again (named name good and (colon and (named of.name kind and semicolon))) }
  where
    again : (all rest : List Item) → Then (NameAgain name) (Then (Passes s.Colon) (Then (NameAgain of.name) (Passes s.Semicolon))) all rest → RowAgain (Inst of) name all rest
    again all rest (m1, ((at, n), (m2, ((c, co), (m3, ((p, n'), (q, semi))))))) = λ before.
        let one : Named = record { name = name; at = at } in
        let other : Named = record { name = of.name; at = p } in
        (local_of (Inst other) one, (variable_row {names = one ∷ []} m1 m2 m3 (one_listed one all m1 n) co (instance other n' refl) semi refl, refl))

-- the locals behind some: with a head of their own
abbrev pub HeadedAgain : List Local → List Item → List Item → Type 0
HeadedAgain added all rest =
    (consts : List Const) (before : List Local) →
    (again : List Local) × (Declarations consts before all consts again rest × (map placeless_local again ≡ map placeless_local before ++ map placeless_local added))

-- or under the head of one of this kind
abbrev VariablesAgain : List Local → List Item → List Item → Type 0
VariablesAgain added all rest =
    (consts : List Const) (before : List Local) →
    (longer : List Local) × ((mid : List Item) × ((again : List Local) × (MoreVariables before all longer mid ×
    (Declarations consts longer mid consts again rest × (map placeless_local again ≡ map placeless_local before ++ map placeless_local added)))))

abbrev InsideAgain : LocalKind → List Local → List Item → List Item → Type 0
InsideAgain (Reg clock t) added all rest =
    (clock' : Named) → clock'.name ≡ clock.name → (consts : List Const) (before : List Local) →
    (longer : List Local) × ((mid : List Item) × ((again : List Local) × (MoreRegisters clock' before all longer mid ×
    (Declarations consts longer mid consts again rest × (map placeless_local again ≡ map placeless_local before ++ map placeless_local added)))))
InsideAgain (Var t) added all rest = VariablesAgain added all rest
InsideAgain (Inst of) added all rest = VariablesAgain added all rest

record InsidePrinted (kind : LocalKind) (added : List Local) : Type 0 where
  pub count : ℕ
  pub printed : Prints (more_locals kind added) count (InsideAgain kind added)

record HeadedPrinted (l : Local) (added : List Local) : Type 0 where
  pub count : ℕ
  pub printed : Prints (head_text l.kind ++ (local_text l ++ more_locals l.kind added)) count (HeadedAgain (l ∷ added))

headed : (kind : LocalKind) (name : List ℕ) (at : ℕ) (added : List Local) → IsName name → KindGood kind → InsidePrinted kind added → HeadedPrinted (record { kind = kind; name = name; at = at }) added
headed (Reg clock t) name at added good kind inside = record {
  count = _;
  printed = read_as {Q = HeadedAgain (record { kind = Reg clock t; name = name; at = at } ∷ added)} again
      ((reserved 82 (codes "EG") 32 s.Reg refl refl refl refl and (open_paren and (named clock.name kind.0 and close_paren))) and (row.printed and inside.printed));
}
  where
    row : RowPrinted (Reg clock t) name
    row = row_printed (Reg clock t) name good kind

    again : (all rest : List Item) →
        Then (Then (Passes s.Reg) (Then (Passes s.OpenParen) (Then (NameAgain clock.name) (Passes s.CloseParen)))) (Then (RowAgain (Reg clock t) name) (InsideAgain (Reg clock t) added)) all rest →
        HeadedAgain (record { kind = Reg clock t; name = name; at = at } ∷ added) all rest
    again all rest (m1, ((k1, ((p, reg), (k2, ((q, op), (k3, ((c, cname), (r, cp))))))), (m2, (read, more)))) = λ consts before.
        let clock' : Named = record { name = clock.name; at = c } in
        let one = read clock' refl before in
        let go = more clock' refl consts (before ++ one.0 ∷ []) in (
          go.1.1.0,
          (
            with_registers k1 go.1.0 reg (registers {clock = clock'} k2 k3 m1 m2 op cname cp one.1.0 go.1.1.1.0) go.1.1.1.1.0,
            grown placeless_local before added go.1.1.0 one.0 (record { kind = Reg clock t; name = name; at = at }) go.1.1.1.1.1 one.1.1,
          ),
        )
headed (Var t) name at added good kind inside = record {
  count = _;
  printed = read_as {Q = HeadedAgain (record { kind = Var t; name = name; at = at } ∷ added)} again
      (reserved 86 (codes "AR") 32 s.Var refl refl refl refl and (row.printed and inside.printed));
}
  where
    row : RowPrinted (Var t) name
    row = row_printed (Var t) name good kind

    again : (all rest : List Item) → Then (Passes s.Var) (Then (RowAgain (Var t) name) (InsideAgain (Var t) added)) all rest →
        HeadedAgain (record { kind = Var t; name = name; at = at } ∷ added) all rest
    again all rest (m1, ((p, var), (m2, (read, more)))) = λ consts before.
        let one = read before in
        let go = more consts (before ++ one.0 ∷ []) in (
          go.1.1.0,
          (
            with_variables m1 go.1.0 var (next_variable m2 one.1.0 go.1.1.1.0) go.1.1.1.1.0,
            grown placeless_local before added go.1.1.0 one.0 (record { kind = Var t; name = name; at = at }) go.1.1.1.1.1 one.1.1,
          ),
        )
headed (Inst of) name at added good kind inside = record {
  count = _;
  printed = read_as {Q = HeadedAgain (record { kind = Inst of; name = name; at = at } ∷ added)} again
      (reserved 86 (codes "AR") 32 s.Var refl refl refl refl and (row.printed and inside.printed));
}
  where
    row : RowPrinted (Inst of) name
    row = row_printed (Inst of) name good kind

    again : (all rest : List Item) → Then (Passes s.Var) (Then (RowAgain (Inst of) name) (InsideAgain (Inst of) added)) all rest →
        HeadedAgain (record { kind = Inst of; name = name; at = at } ∷ added) all rest
    again all rest (m1, ((p, var), (m2, (read, more)))) = λ consts before.
        let one = read before in
        let go = more consts (before ++ one.0 ∷ []) in (
          go.1.1.0,
          (
            with_variables m1 go.1.0 var (next_variable m2 one.1.0 go.1.1.1.0) go.1.1.1.1.0,
            grown placeless_local before added go.1.1.0 one.0 (record { kind = Inst of; name = name; at = at }) go.1.1.1.1.1 one.1.1,
          ),
        )

inside_none : (kind : LocalKind) → InsidePrinted kind []
inside_none (Reg clock t) = record {
  count = 0;
  printed = read_as {Q = InsideAgain (Reg clock t) []} (λ xs ys h clock' e consts before.
      (before, (xs, (before, (no_register refl refl, (no_declaration refl refl (sym h), grown_none placeless_local before)))))) nothing;
}
inside_none (Var t) = record {
  count = 0;
  printed = read_as {Q = InsideAgain (Var t) []} (λ xs ys h consts before. (before, (xs, (before, (no_variable refl refl, (no_declaration refl refl (sym h), grown_none placeless_local before)))))) nothing;
}
inside_none (Inst of) = record {
  count = 0;
  printed = read_as {Q = InsideAgain (Inst of) []} (λ xs ys h consts before. (before, (xs, (before, (no_variable refl refl, (no_declaration refl refl (sym h), grown_none placeless_local before)))))) nothing;
}

-- a new head ends the list under the one before
headed_inside : (kind : LocalKind) (added : List Local) (all rest : List Item) → HeadedAgain added all rest → InsideAgain kind added all rest
headed_inside (Reg clock t) added all rest h = λ clock' e consts before. let go = h consts before in (before, (all, (go.0, (no_register refl refl, go.1))))
headed_inside (Var t) added all rest h = λ consts before. let go = h consts before in (before, (all, (go.0, (no_variable refl refl, go.1))))
headed_inside (Inst of) added all rest h = λ consts before. let go = h consts before in (before, (all, (go.0, (no_variable refl refl, go.1))))

variable_inside : (kind : LocalKind) (name : List ℕ) (at : ℕ) (added : List Local) (all rest : List Item) → Then (VariableAgain kind name) (VariablesAgain added) all rest →
    VariablesAgain (record { kind = kind; name = name; at = at } ∷ added) all rest
variable_inside kind name at added all rest (m1, (read, more)) = λ consts before.
    let one = read before in
    let go = more consts (before ++ one.0 ∷ []) in (
      go.0,
      (
        go.1.0,
        (
          go.1.1.0,
          (
            next_variable m1 one.1.0 go.1.1.1.0,
            (
              go.1.1.1.1.0,
              grown placeless_local before added go.1.1.0 one.0 (record { kind = kind; name = name; at = at }) go.1.1.1.1.1 one.1.1,
            ),
          ),
        ),
      ),
    )

-- one more under the same head
shared_inside : (before kind : LocalKind) (name : List ℕ) (at : ℕ) (added : List Local) → shares_head before kind ≡ true → (all rest : List Item) → Then (RowAgain kind name) (InsideAgain kind added) all rest →
    InsideAgain before (record { kind = kind; name = name; at = at } ∷ added) all rest
shared_inside (Reg clock t) (Reg other u) name at added e all rest (m1, (read, more)) = λ clock' f consts before.
    let same = f ∙ (bytes_eq-Decides clock.name other.name).0 e in
    let one = read clock' same before in
    let go = more clock' same consts (before ++ one.0 ∷ []) in (
      go.0,
      (
        go.1.0,
        (
          go.1.1.0,
          (
            next_register m1 one.1.0 go.1.1.1.0,
            (
              go.1.1.1.1.0,
              grown placeless_local before added go.1.1.0 one.0 (record { kind = Reg other u; name = name; at = at }) go.1.1.1.1.1 one.1.1,
            ),
          ),
        ),
      ),
    )
shared_inside (Var t) (Var u) name at added e all rest h = variable_inside (Var u) name at added all rest h
shared_inside (Var t) (Inst m) name at added e all rest h = variable_inside (Inst m) name at added all rest h
shared_inside (Inst of) (Var u) name at added e all rest h = variable_inside (Var u) name at added all rest h
shared_inside (Inst of) (Inst m) name at added e all rest h = variable_inside (Inst m) name at added all rest h
shared_inside (Reg clock t) (Var u) name at added e all rest h = cc
shared_inside (Reg clock t) (Inst m) name at added e all rest h = cc
shared_inside (Var t) (Reg other u) name at added e all rest h = cc
shared_inside (Inst of) (Reg other u) name at added e all rest h = cc

one_more : (before : LocalKind) (l : Local) (added : List Local) → LocalGood l → InsidePrinted l.kind added → InsidePrinted before (l ∷ added)
one_more before l added good inside = elim (cases_Bool (shares_head before l.kind)) [
  | inl e ↦ record {
    count = _;
    printed = retext (rw e refl) refl (read_as {Q = InsideAgain before (l ∷ added)} (shared_inside before l.kind l.name l.at added e)
        ((row_printed l.kind l.name good.name good.kind).printed and inside.printed));
  }
  | inr e ↦ record {
    count = _;
    printed = retext (rw e refl) refl (read_as {Q = InsideAgain before (l ∷ added)} (headed_inside before (l ∷ added)) (headed l.kind l.name l.at added good.name good.kind inside).printed);
  }
]

inside_printed : (kind : LocalKind) (added : List Local) → AllByRecursion LocalGood added → InsidePrinted kind added
inside_printed kind [] each = inside_none kind
inside_printed kind (l ∷ added) each = one_more kind l added each.0 (inside_printed l.kind added each.1)

pub record LocalsPrinted (locals : List Local) : Type 0 where
  pub count : ℕ
  pub printed : Prints (locals_text locals) count (HeadedAgain locals)

pub locals_printed : (locals : List Local) → AllByRecursion LocalGood locals → LocalsPrinted locals
locals_printed [] each = record {
  count = 0;
  printed = read_as {Q = HeadedAgain []} (λ xs ys h consts before. (before, (no_declaration refl refl (sym h), grown_none placeless_local before))) nothing;
}
locals_printed (l ∷ added) each = record { count = _; printed = (headed l.kind l.name l.at added each.0.name each.0.kind (inside_printed l.kind added each.1)).printed }
