-- Statements are printed so that they are read again.
use Rattle.std.proofs.Common.{◌≡◌, ℕ, List, [], ◌∷◌, ◌++◌, map, codes, Some, None, refl, sym, ap, ap₂, subst, ◌∙◌, arith, append-nil, append_assoc}
use Rattle.std.specs.List.{AllByRecursion}
use Rattle.lola_bits.proofs.All.{all_append}
use Rattle.lola_tree.specs.declared.named.Named.{Named}
use Rattle.lola_tree.specs.Tree.{Tree, ActualTree, StmtTree, assignment, call, pad}
use Rattle.lola_tree.specs.Places.{placeless, placeless_name, placeless_actual, placeless_stmt}
use Rattle.lola_tree.specs.Print.{name_text, expr_text, tightness, args_text, stmt_text, body_text}
use Rattle.lola_parse.specs.declared.symbol.Symbol.TheVariants as s
use Rattle.lola_parse.specs.declared.symbol.Language.TheVariants.{Design}
use Rattle.lola_parse.specs.Symbols.{Item}
use Rattle.lola_parse.specs.Grammar.{Passes, Names, place_of}
use Rattle.lola_parse.specs.Design.{Outermost, Argument, argument, MoreArguments, no_argument, one_argument, Statement, assigned, placed, called, driven, Optional, empty, one_statement, MoreStatements, no_statement, next_statement, statements, Begun, no_body, begun}
use Rattle.lola_reread.proofs.Words.{shows_long}
use Rattle.lola_reread.proofs.GoodItems.{AllGood}
use Rattle.lola_reread.proofs.Prints.{Prints, Then, ◌and◌, read_as, retext, nothing, mark, reserved, named, IsName}
use Rattle.lola_reread.proofs.Levels.{lower_again, open_paren, close_paren, open_bracket, close_bracket, comma, assign, Done, past_good}
use Rattle.lola_reread.proofs.Expressions.{past_name, few_zero}
use Rattle.lola_reread.proofs.ReadExpressions.{expression_done}
use Rattle.lola_reread.proofs.Lists.{grown, grown_none}

-- an outermost expression
abbrev OutAgain : Tree → List Item → List Item → Type 0
OutAgain e all rest = (again : Tree) × (Outermost Design all again rest × (placeless again ≡ placeless e))

record OutPrinted (e : Tree) : Type 0 where
  pub count : ℕ
  pub printed : Prints (expr_text e) count (OutAgain e)

out_done : (e : Tree) (all rest : List Item) → Outermost Design all e rest → AllGood all → OutPrinted e × AllGood rest
out_done e all rest out good = (record { count = d.count; printed = printed }, d.good)
  where
    d : Done 0 e all rest
    d = expression_done all rest e out.expr good

    printed : Prints (expr_text e) d.count (OutAgain e)
    printed = record {
      words = d.printed.words;
      spelled = d.printed.spelled;
      good = d.printed.good;
      long = d.printed.long;
      read = λ xs ys shows.
          let read = lower_again (tightness e) 0 e (omega arith) xs ys (d.printed.read xs ys shows) in
          let long = shows_long d.printed.words xs ys shows in
          let count = d.printed.long in
          let few = few_zero d in
          let within = out.within in
          (read.0, (record { expr = read.1.0; within = omega arith }, read.1.1));
    }

-- an argument
abbrev ArgAgain : ActualTree → List Item → List Item → Type 0
ArgAgain a all rest = (again : ActualTree) × (Argument all again rest × (placeless_actual again ≡ placeless_actual a))

record ArgPrinted (a : ActualTree) : Type 0 where
  pub count : ℕ
  pub printed : Prints (expr_text a.value) count (ArgAgain a)

arg_done : (a : ActualTree) (all rest : List Item) → Argument all a rest → AllGood all → ArgPrinted a × AllGood rest
arg_done a all rest (argument e out is) good =
    let d = out_done e all rest out good in (
      subst ArgPrinted (sym is) (record {
        count = d.0.count;
        printed = read_as {Q = ArgAgain (record { value = e; at = place_of all })}
            (λ xs ys h. (record { value = h.0; at = place_of xs }, (argument h.0 h.1.0 refl, ap (λ (x : Tree). let r : ActualTree = record { value = x; at = 0 } in r) h.1.1))) d.0.printed;
      }),
      d.1,
    )

-- the arguments that were added
record ArgsDone (before args : List ActualTree) (rest : List Item) : Type 0 where
  pub added : List ActualTree
  pub is : args ≡ before ++ added
  pub each : AllByRecursion ArgPrinted added
  pub good : AllGood rest

more_args_done : (before args : List ActualTree) (all rest : List Item) → MoreArguments before all args rest → AllGood all → ArgsDone before args rest
more_args_done before args all rest (no_argument same none) good =
    record { added = []; is = same ∙ sym (append-nil before); each = tt; good = subst AllGood (sym none) good }
more_args_done before args all rest (one_argument {a = a} first behind stands arg more) good =
    let d = arg_done a first behind arg (past_good stands good) in
    let ds = more_args_done (before ++ a ∷ []) args behind rest more d.1 in
    record { added = a ∷ ds.added; is = ds.is ∙ append_assoc before (a ∷ []) ds.added; each = (d.0, ds.each); good = ds.good }

-- the arguments behind some
abbrev MoreArgsAgain : List ActualTree → List Item → List Item → Type 0
MoreArgsAgain added all rest =
    (before : List ActualTree) → (again : List ActualTree) × (MoreArguments before all again rest × (map placeless_actual again ≡ map placeless_actual before ++ map placeless_actual added))

record MoreArgsPrinted (added : List ActualTree) : Type 0 where
  pub count : ℕ
  pub printed : Prints (args_text (codes ", ") added) count (MoreArgsAgain added)

one_arg_more : (a : ActualTree) (added : List ActualTree) → ArgPrinted a → MoreArgsPrinted added → MoreArgsPrinted (a ∷ added)
one_arg_more a added one more = record { count = _; printed = read_as {Q = MoreArgsAgain (a ∷ added)} again (comma and (one.printed and more.printed)) }
  where
    again : (all rest : List Item) → Then (Passes s.Comma) (Then (ArgAgain a) (MoreArgsAgain added)) all rest → MoreArgsAgain (a ∷ added) all rest
    again all rest (m1, ((p, co), (m2, ((a', (arg, same)), others)))) = λ before.
        let go = others (before ++ a' ∷ []) in
        (go.0, (one_argument m1 m2 co arg go.1.0, grown placeless_actual before added go.0 a' a go.1.1 same))

more_args_printed : (added : List ActualTree) → AllByRecursion ArgPrinted added → MoreArgsPrinted added
more_args_printed [] each = record {
  count = 0;
  printed = read_as {Q = MoreArgsAgain []} (λ xs ys h before. (before, (no_argument refl (sym h), grown_none placeless_actual before))) nothing;
}
more_args_printed (a ∷ added) each = one_arg_more a added each.0 (more_args_printed added each.1)

-- a statement
abbrev pub StmtAgain : StmtTree → List Item → List Item → Type 0
StmtAgain t all rest = (again : StmtTree) × (Statement all again rest × (placeless_stmt again ≡ placeless_stmt t))

pub record StmtPrinted (t : StmtTree) : Type 0 where
  pub count : ℕ
  pub printed : Prints (stmt_text t) count (StmtAgain t)

abbrev pub NameAgain : List ℕ → List Item → List Item → Type 0
NameAgain name all rest = (at : ℕ) × Names name at all rest

assigned_printed : (name : List ℕ) (e : Tree) (at equals : ℕ) → IsName name → OutPrinted e → StmtPrinted (assignment name None e at equals)
assigned_printed name e at equals good p = record { count = _; printed = read_as {Q = StmtAgain (assignment name None e at equals)} again (named name good and (assign and p.printed)) }
  where
    again : (all rest : List Item) → Then (NameAgain name) (Then (Passes s.Assign) (OutAgain e)) all rest → StmtAgain (assignment name None e at equals) all rest
    again all rest (m1, ((p, n), (m2, ((q, a), (e', (out, same)))))) = (assignment name None e' p q, (assigned m1 m2 n a out refl, ap (λ x. assignment name None x 0 0) same))

placed_printed : (name : List ℕ) (place e : Tree) (place_at at equals : ℕ) → IsName name → OutPrinted place → OutPrinted e →
    StmtPrinted (assignment name (Some (record { value = place; at = place_at })) e at equals)
placed_printed name place e place_at at equals good p q = record {
  count = _;
  printed = retext text refl (read_as {Q = StmtAgain whole} again (named name good and (open_bracket and (p.printed and (close_bracket and (assign and q.printed))))));
}
  where
    whole : StmtTree
    whole = assignment name (Some (record { value = place; at = place_at })) e at equals

    text : name_text name ++ (codes "[ " ++ (expr_text place ++ (codes "] " ++ (codes ":= " ++ expr_text e)))) ≡ stmt_text whole
    text = ap (λ xs. name_text name ++ (codes "[ " ++ xs)) (sym (append_assoc (expr_text place) (codes "] ") (codes ":= " ++ expr_text e)))

    again : (all rest : List Item) → Then (NameAgain name) (Then (Passes s.OpenBracket) (Then (OutAgain place) (Then (Passes s.CloseBracket) (Then (Passes s.Assign) (OutAgain e))))) all rest →
        StmtAgain whole all rest
    again all rest (m1, ((p, n), (m2, ((q, ob), (m3, ((e1, (o1, s1)), (m4, ((r, cb), (m5, ((t, a), (e2, (o2, s2)))))))))))) = (
      assignment name (Some (record { value = e1; at = q })) e2 p t,
      (placed m1 m2 m3 m4 m5 n ob o1 cb a o2 refl, ap₂ (λ (x y : Tree). let r : ActualTree = record { value = x; at = 0 } in assignment name (Some r) y 0 0) s1 s2),
    )

called_printed : (name : List ℕ) (a : ActualTree) (added : List ActualTree) (at : ℕ) → IsName name → ArgPrinted a → MoreArgsPrinted added → StmtPrinted (call name (a ∷ added) at)
called_printed name a added at good p q = record {
  count = _;
  printed = retext text refl (read_as {Q = StmtAgain (call name (a ∷ added) at)} again (named name good and (open_paren and (p.printed and (q.printed and close_paren)))));
}
  where
    text : name_text name ++ (codes "( " ++ (expr_text a.value ++ (args_text (codes ", ") added ++ codes ") "))) ≡ stmt_text (call name (a ∷ added) at)
    text = ap (λ xs. name_text name ++ (codes "( " ++ xs)) (sym (append_assoc (expr_text a.value) (args_text (codes ", ") added) (codes ") ")))

    again : (all rest : List Item) → Then (NameAgain name) (Then (Passes s.OpenParen) (Then (ArgAgain a) (Then (MoreArgsAgain added) (Passes s.CloseParen)))) all rest →
        StmtAgain (call name (a ∷ added) at) all rest
    again all rest (m1, ((p, n), (m2, ((q, op), (m3, ((a', (arg, same)), (m4, (more, (r, cp))))))))) =
        let go = more (a' ∷ []) in
        (call name go.0 p, (called m1 m2 m3 m4 n op arg go.1.0 cp refl, ap (λ xs. call name xs 0) (go.1.1 ∙ ap (λ x. x ∷ map placeless_actual added) same)))

pad_printed : (io inner : Named) (value release : ActualTree) (at : ℕ) → IsName io.name → IsName inner.name → ArgPrinted value → ArgPrinted release → StmtPrinted (pad io inner value release at)
pad_printed io inner value release at good good' p q = record {
  count = _;
  printed = read_as {Q = StmtAgain (pad io inner value release at)} again
      (reserved 84 (codes "S") 32 s.Ts refl refl refl refl
      and (open_paren and (named io.name good and (comma and (named inner.name good' and (comma and (p.printed and (comma and (q.printed and close_paren)))))))));
}
  where
    again : (all rest : List Item) →
        Then (Passes s.Ts) (Then (Passes s.OpenParen) (Then (NameAgain io.name) (Then (Passes s.Comma) (Then (NameAgain inner.name) (Then (Passes s.Comma) (Then (ArgAgain value)
        (Then (Passes s.Comma) (Then (ArgAgain release) (Passes s.CloseParen))))))))) all rest →
        StmtAgain (pad io inner value release at) all rest
    again all rest (m1, ((pt, ts), (m2, ((po, op), (m3, ((pi, ni), (m4, ((c1, k1), (m5, ((pn, nn), (m6, ((c2, k2), (m7, ((v, (av, sv)), (m8, ((c3, k3), (m9, ((r, (ar, sr)), (pc, cp))))))))))))))))))) = (
      pad (record { name = io.name; at = pi }) (record { name = inner.name; at = pn }) v r pt,
      (driven m1 m2 m3 m4 m5 m6 m7 m8 m9 ts op ni k1 nn k2 av k3 ar cp refl, ap₂ (λ (x y : ActualTree). pad (placeless_name io) (placeless_name inner) x y 0) sv sr),
    )

pub statement_done : (t : StmtTree) (all rest : List Item) → Statement all t rest → AllGood all → StmtPrinted t × AllGood rest
statement_done t all rest (assigned {name = name} {e = e} {at = at} {equals = equals} sign behind n a out is) good =
    let name_good = past_name n good in
    let d = out_done e behind rest out (past_good a name_good.1.0) in
    (subst StmtPrinted (sym is) (assigned_printed name e at equals name_good.0 d.0), d.1)
statement_done t all rest (placed {name = name} {e = e} {place = place} {at = at} {place_at = place_at} {equals = equals} bracket first close sign behind n opens out closes a value is) good =
    let name_good = past_name n good in
    let d = out_done place first close out (past_good opens name_good.1.0) in
    let v = out_done e behind rest value (past_good a (past_good closes d.1)) in
    (subst StmtPrinted (sym is) (placed_printed name place e place_at at equals name_good.0 d.0 v.0), v.1)
statement_done t all rest (called {name = name} {a = a} {args = args} {at = at} paren first behind close n opens arg more closes is) good =
    let name_good = past_name n good in
    let d = arg_done a first behind arg (past_good opens name_good.1.0) in
    let ds = more_args_done (a ∷ []) args behind close more d.1 in
    (subst StmtPrinted (sym (is ∙ ap (λ xs. call name xs at) ds.is)) (called_printed name a ds.added at name_good.0 d.0 (more_args_printed ds.added ds.each)), past_good closes ds.good)
statement_done t all rest (driven {io = io} {inner = inner} {value = value} {release = release} {at = at} paren first comma1 second comma2 third comma3 fourth close ts opens n k1 n' k2 av k3 ar closes is) good =
    let io_good = past_name n (past_good opens (past_good ts good)) in
    let inner_good = past_name n' (past_good k1 io_good.1.0) in
    let d = arg_done value third comma3 av (past_good k2 inner_good.1.0) in
    let r = arg_done release fourth close ar (past_good k3 d.1) in
    (subst StmtPrinted (sym is) (pad_printed io inner value release at io_good.0 inner_good.0 d.0 r.0), past_good closes r.1)

-- the statements of a body are printed so
optional_done : (before body : List StmtTree) (all rest : List Item) → Optional before all body rest → AllByRecursion StmtPrinted before → AllGood all → AllByRecursion StmtPrinted body × AllGood rest
optional_done before body all rest (empty same none) each good = (subst (AllByRecursion StmtPrinted) (sym same) each, subst AllGood (sym none) good)
optional_done before body all rest (one_statement t stmt is) each good =
    let d = statement_done t all rest stmt good in
    (subst (AllByRecursion StmtPrinted) (sym is) (all_append StmtPrinted before (t ∷ []) each (d.0, tt)), d.1)

more_done : (before body : List StmtTree) (all rest : List Item) → MoreStatements before all body rest → AllByRecursion StmtPrinted before → AllGood all → AllByRecursion StmtPrinted body × AllGood rest
more_done before body all rest (no_statement same none) each good = (subst (AllByRecursion StmtPrinted) (sym same) each, subst AllGood (sym none) good)
more_done before body all rest (next_statement {longer = longer} first behind stands one more) each good =
    let d = optional_done before longer first behind one each (past_good stands good) in
    more_done longer body behind rest more d.0 d.1

pub begun_done : (body : List StmtTree) (all rest : List Item) → Begun all body rest → AllGood all → AllByRecursion StmtPrinted body × AllGood rest
begun_done body all rest (no_body same none) good = (subst (AllByRecursion StmtPrinted) (sym same) tt, subst AllGood (sym none) good)
begun_done body all rest (begun behind stands (statements {first = first} ahead one more)) good =
    let d = optional_done [] first behind ahead one tt (past_good stands good) in
    more_done first body ahead rest more d.0 d.1

-- the statements behind some
abbrev MoreAgain : List StmtTree → List Item → List Item → Type 0
MoreAgain added all rest =
    (before : List StmtTree) → (again : List StmtTree) × (MoreStatements before all again rest × (map placeless_stmt again ≡ map placeless_stmt before ++ map placeless_stmt added))

record MorePrinted (added : List StmtTree) : Type 0 where
  pub count : ℕ
  pub printed : Prints (body_text (codes ";\n") added) count (MoreAgain added)

pub semicolon : Prints (codes ";\n") 1 (Passes s.Semicolon)
semicolon = mark (codes ";") 10 s.Semicolon refl refl refl

one_more : (t : StmtTree) (added : List StmtTree) → StmtPrinted t → MorePrinted added → MorePrinted (t ∷ added)
one_more t added one more = record { count = _; printed = read_as {Q = MoreAgain (t ∷ added)} again (semicolon and (one.printed and more.printed)) }
  where
    again : (all rest : List Item) → Then (Passes s.Semicolon) (Then (StmtAgain t) (MoreAgain added)) all rest → MoreAgain (t ∷ added) all rest
    again all rest (m1, ((p, semi), (m2, ((t', (stmt, same)), others)))) = λ before.
        let go = others (before ++ t' ∷ []) in
        (go.0, (next_statement m1 m2 semi (one_statement t' stmt refl) go.1.0, grown placeless_stmt before added go.0 t' t go.1.1 same))

more_printed : (added : List StmtTree) → AllByRecursion StmtPrinted added → MorePrinted added
more_printed [] each = record {
  count = 0;
  printed = read_as {Q = MoreAgain []} (λ xs ys h before. (before, (no_statement refl (sym h), grown_none placeless_stmt before))) nothing;
}
more_printed (t ∷ added) each = one_more t added each.0 (more_printed added each.1)

-- a body
abbrev pub BodyAgain : List StmtTree → List Item → List Item → Type 0
BodyAgain body all rest = (again : List StmtTree) × (Begun all again rest × (map placeless_stmt again ≡ map placeless_stmt body))

pub record BodyPrinted (body : List StmtTree) : Type 0 where
  pub count : ℕ
  pub printed : Prints (body_text (codes "BEGIN\n") body) count (BodyAgain body)

first_printed : (t : StmtTree) (added : List StmtTree) → StmtPrinted t → MorePrinted added → BodyPrinted (t ∷ added)
first_printed t added one more = record {
  count = _;
  printed = read_as {Q = BodyAgain (t ∷ added)} again (reserved 66 (codes "EGIN") 10 s.Begin refl refl refl refl and (one.printed and more.printed));
}
  where
    again : (all rest : List Item) → Then (Passes s.Begin) (Then (StmtAgain t) (MoreAgain added)) all rest → BodyAgain (t ∷ added) all rest
    again all rest (m1, ((p, b), (m2, ((t', (stmt, same)), others)))) =
        let go = others (t' ∷ []) in
        (go.0, (begun m1 b (statements m2 (one_statement t' stmt refl) go.1.0), go.1.1 ∙ ap (λ x. x ∷ map placeless_stmt added) same))

pub body_printed : (body : List StmtTree) → AllByRecursion StmtPrinted body → BodyPrinted body
body_printed [] each = record { count = 0; printed = read_as {Q = BodyAgain []} (λ xs ys h. ([], (no_body refl (sym h), refl))) nothing }
body_printed (t ∷ added) each = first_printed t added each.0 (more_printed added each.1)
