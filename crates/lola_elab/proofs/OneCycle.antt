-- A small design has one cycle from each state under each input, and one state behind it.
use Rattle.std.proofs.Common.{◌≡◌, ◌≢◌, ℕ, true, false, cond, List, [], ◌∷◌, map, Option, Some, None, refl, sym, ◌∙◌, ap, ap₂, subst, inl, inr}
use Rattle.std.specs.Prelude.{bytes_eq, nat_eq}
use Rattle.std.proofs.lemmas.Bool.{cond-true, cond-false}
use Rattle.lola_bits.specs.Lists.{IsIn, AreDistinct}
use Rattle.lola_bits.specs.Names.{is_among}
use Rattle.lola_bits.proofs.All.{of_all}
use Rattle.lola_bits.proofs.Lists.{to_map, from_map}
use Rattle.lola_bits.proofs.Names.{same_name, other_name, among, not_among}
use Rattle.lola_tree.specs.declared.named.Ref.{Ref}
use Rattle.lola_tree.specs.declared.named.Shape.{Shape}
use Rattle.lola_tree.specs.declared.module.Const.{Const}
use Rattle.lola_tree.specs.Names as Names
use Rattle.lola_tree.specs.Names.{first_name, constant_number}
use Rattle.lola_tree.specs.Tree.{Tree, number, whole, bit, slice, index, concat, negation, binary, choice, Parts, no_part, one_part, StmtTree, assignment, call, pad, ModuleTree, SourceTree}
use Rattle.lola_bits.specs.Number.{bit_at, slice_of, joined, inverted, operate}
use Rattle.lola_tree.specs.Width.{Scope as Widths, width, total_width, scope_of}
use Rattle.lola_tree.specs.Value.{Path, Values, value, value_of_parts, or_zero, or_read, repeated}
use Rattle.lola_tree.specs.Cycle.{IsRoot, IsRegisterOf, IsRegister, IsInputOf, IsInput, IsState, IsGiven, names_at, Equation, Cycle, Next, NextBy}
use Rattle.lola_tree.specs.Signals.{register_names, IsSignal, register, input, output}
use Rattle.lola_elab.specs.Small.{IsBuilt, AreBuilt, IsLeaf, IsReadable, IsTarget, IsSmallStmt, target_of, IsSmallModule, IsSmallSource}
use Rattle.lola_elab.specs.Elaborated.{HasOneCycle}
use Rattle.lola_elab.proofs.Bits.{next_state}
use Rattle.lola_elab.proofs.Roots.{root_is}
use Rattle.lola_elab.proofs.Names.{is_register, register_listed, all_names, input_no_target, output_no_register}
use Rattle.lola_elab.proofs.Entries.{const_named, entry_names}

-- expressions have one value where their names have
mutual
  pub value_agrees : (P : Ref → Type 0) (widths : Widths) (v w : Ref → ℕ → ℕ) → ((r : Ref) → P r → or_read (widths.number r) (v r 0) ≡ or_read (widths.number r) (w r 0)) →
      (e : Tree) → IsBuilt P e → value widths e v ≡ value widths e w
  value_agrees P widths v w same (number n written at) is = refl
  value_agrees P widths v w same (whole of) is = same of is
  value_agrees P widths v w same (bit of place at) is = ap (λ x. bit_at x (or_zero (widths.count place))) (same of is)
  value_agrees P widths v w same (slice of high low at) is = ap (λ x. slice_of x (or_zero (widths.count high)) (or_zero (widths.count low))) (same of is)
  value_agrees P widths v w same (index of place at) is = absurd is
  value_agrees P widths v w same (concat parts at) is = parts_agree P widths v w same parts is
  value_agrees P widths v w same (negation e at) is = ap (inverted (or_zero (width widths e))) (value_agrees P widths v w same e is)
  value_agrees P widths v w same (binary o a b at) is =
      ap₂ (operate o (or_zero (width widths a))) (value_agrees P widths v w same a is.0) (value_agrees P widths v w same b is.1)
  value_agrees P widths v w same (choice test first second at) is =
      ap (λ x. cond (nat_eq x 1) (value widths first v) (value widths second v)) (value_agrees P widths v w same test is.0)
      ∙ ap₂ (λ x y. cond (nat_eq (value widths test w) 1) x y) (value_agrees P widths v w same first is.1) (value_agrees P widths v w same second is.2)

  parts_agree : (P : Ref → Type 0) (widths : Widths) (v w : Ref → ℕ → ℕ) → ((r : Ref) → P r → or_read (widths.number r) (v r 0) ≡ or_read (widths.number r) (w r 0)) →
      (ps : Parts) → AreBuilt P ps → value_of_parts widths ps v ≡ value_of_parts widths ps w
  parts_agree P widths v w same no_part is = refl
  parts_agree P widths v w same (one_part e times behind) is =
      ap₂ (λ x y. joined (repeated (or_zero (widths.count times)) (or_zero (width widths e)) x) (or_zero (total_width widths behind)) y)
      (value_agrees P widths v w same e is.0) (parts_agree P widths v w same behind is.1)

-- the value that a statement assigns
abbrev assigns : Widths → Values → StmtTree → ℕ
assigns widths v (assignment name place e at equals) = value widths e (names_at [] v)
assigns widths v (call name args at) = 0
assigns widths v (pad io inner drive release at) = 0

-- the value that the first of some statements assigns to a name, or else a number
abbrev assigned : Widths → List StmtTree → Values → ℕ → List ℕ → ℕ
assigned widths [] v other name = other
assigned widths (t ∷ ts) v other name = cond (bytes_eq (target_of t) name) (assigns widths v t) (assigned widths ts v other name)

assigned_here : (widths : Widths) (ts : List StmtTree) (v : Values) (other : ℕ) (t : StmtTree) → AreDistinct (map target_of ts) → IsIn t ts → assigned widths ts v other (target_of t) ≡ assigns widths v t
assigned_here widths [] v other t distinct is = absurd is
assigned_here widths (u ∷ us) v other t distinct (inl same) =
    cond-true (bytes_eq (target_of u) (target_of t)) (assigns widths v u) (assigned widths us v other (target_of t)) (same_name (target_of u) (target_of t) (ap target_of (sym same)))
    ∙ ap (assigns widths v) (sym same)
assigned_here widths (u ∷ us) v other t distinct (inr later) =
    let apart : target_of u ≢ target_of t = λ e. distinct.0 (subst (λ (n : List ℕ). IsIn n (map target_of us)) (sym e) (to_map target_of t us later)) in
    cond-false (bytes_eq (target_of u) (target_of t)) (assigns widths v u) (assigned widths us v other (target_of t)) (other_name (target_of u) (target_of t) apart)
    ∙ assigned_here widths us v other t distinct.1 later

assigned_not : (widths : Widths) (ts : List StmtTree) (v : Values) (other : ℕ) (name : List ℕ) → (IsIn name (map target_of ts) → ⊥) → assigned widths ts v other name ≡ other
assigned_not widths [] v other name none = refl
assigned_not widths (u ∷ us) v other name none =
    cond-false (bytes_eq (target_of u) name) (assigns widths v u) (assigned widths us v other name) (other_name (target_of u) name (λ e. none (inl (sym e))))
    ∙ assigned_not widths us v other name (λ is. none (inr is))

-- a number for each name, as one for each path
abbrev by_name : (List ℕ → ℕ) → Values
by_name f [] n = 0
by_name f (name ∷ []) n = f name
by_name f (name ∷ other ∷ more) n = 0

-- the values that are there before a cycle: a state's for registers, and an input's for the others
abbrev given_value : ModuleTree → Values → Values → List ℕ → ℕ
given_value m s inp name = cond (is_among (register_names m.locals) name) (s (name ∷ []) 0) (inp (name ∷ []) 0)

abbrev before : ModuleTree → Values → Values → Values
before m s inp = by_name (given_value m s inp)

-- the values in a cycle
abbrev cycle_value : ModuleTree → Values → Values → List ℕ → ℕ
cycle_value m s inp name = cond (is_among (register_names m.locals) name) (s (name ∷ []) 0) (assigned (scope_of m) m.body (before m s inp) (inp (name ∷ []) 0) name)

abbrev in_cycle : ModuleTree → Values → Values → Values
in_cycle m s inp = by_name (cycle_value m s inp)

no_register : (m : ModuleTree) (name : List ℕ) → ((clock : List ℕ) (type : Shape) → IsRegisterOf m name clock type → ⊥) → is_among (register_names m.locals) name ≡ false
no_register m name none = not_among name (register_names m.locals) (λ is. let r = is_register m name is in none r.0 r.1 r.2)

a_register : (m : ModuleTree) (name clock : List ℕ) (type : Shape) → IsRegisterOf m name clock type → is_among (register_names m.locals) name ≡ true
a_register m name clock type r = among name (register_names m.locals) (register_listed m name clock type r)

-- what is assigned is a target
pub assigned_target : (m : ModuleTree) (t : StmtTree) → IsSmallStmt m t → IsTarget m (target_of t)
assigned_target m (assignment name None e at equals) is = is.0
assigned_target m (assignment name (Some place) e at equals) is = absurd is
assigned_target m (call name args at) is = absurd is
assigned_target m (pad io inner drive release at) is = absurd is

-- the declared names
names_distinct : (m : ModuleTree) → IsSmallModule m → AreDistinct (all_names m)
names_distinct m small = subst AreDistinct (entry_names m.ports m.consts m.locals) small.distinct

-- the number of a constant
constant_is : (m : ModuleTree) → IsSmallModule m → (r : Ref) (c : Const) → IsIn c m.consts → r.path ≡ c.name ∷ [] → (scope_of m).number r ≡ Some c.value
constant_is m small r c is path = ap (λ (p : List (List ℕ)). constant_number (Names.names_of m (first_name p))) path ∙ ap constant_number (const_named m c small.distinct is)

-- the values at a register and at an input
at_register : (m : ModuleTree) (s inp : Values) (name clock : List ℕ) (type : Shape) → IsRegisterOf m name clock type → cycle_value m s inp name ≡ s (name ∷ []) 0
at_register m s inp name clock type r =
    cond-true (is_among (register_names m.locals) name) (s (name ∷ []) 0) (assigned (scope_of m) m.body (before m s inp) (inp (name ∷ []) 0) name) (a_register m name clock type r)

at_other : (m : ModuleTree) (s inp : Values) (name : List ℕ) → ((clock : List ℕ) (type : Shape) → IsRegisterOf m name clock type → ⊥) → cycle_value m s inp name ≡ assigned (scope_of m) m.body (before m s inp) (inp (name ∷ []) 0) name
at_other m s inp name none =
    cond-false (is_among (register_names m.locals) name) (s (name ∷ []) 0) (assigned (scope_of m) m.body (before m s inp) (inp (name ∷ []) 0) name) (no_register m name none)

at_input : (m : ModuleTree) (s inp : Values) (name : List ℕ) (type : Shape) → IsSmallModule m → IsInputOf m name type → cycle_value m s inp name ≡ inp (name ∷ []) 0
at_input m s inp name type small i =
    at_other m s inp name (λ clock other r. input_no_target m name type (names_distinct m small) i (inr (clock, other, r)))
    ∙ assigned_not (scope_of m) m.body (before m s inp) (inp (name ∷ []) 0) name (λ is.
    let found = from_map target_of name m.body is in
    let t = found.0 in
    input_no_target m name type (names_distinct m small) i
    (subst (λ (n : List ℕ). IsTarget m n) (sym found.2) (assigned_target m t (of_all (IsSmallStmt m) t m.body small.statements found.1))))

-- the cycle has the values from before at inputs and registers
before_register : (m : ModuleTree) (s inp : Values) (name clock : List ℕ) (type : Shape) → IsRegisterOf m name clock type → given_value m s inp name ≡ s (name ∷ []) 0
before_register m s inp name clock type r = cond-true (is_among (register_names m.locals) name) (s (name ∷ []) 0) (inp (name ∷ []) 0) (a_register m name clock type r)

before_input : (m : ModuleTree) (s inp : Values) (name : List ℕ) (type : Shape) → IsSmallModule m → IsInputOf m name type → given_value m s inp name ≡ inp (name ∷ []) 0
before_input m s inp name type small i =
    cond-false (is_among (register_names m.locals) name) (s (name ∷ []) 0) (inp (name ∷ []) 0)
    (no_register m name (λ clock other r. input_no_target m name type (names_distinct m small) i (inr (clock, other, r))))

readable_same : (m : ModuleTree) (s inp : Values) (name : List ℕ) → IsSmallModule m → IsReadable m name → given_value m s inp name ≡ cycle_value m s inp name
readable_same m s inp name small (inl (type, i)) = before_input m s inp name type small i ∙ sym (at_input m s inp name type small i)
readable_same m s inp name small (inr (clock, type, r)) = before_register m s inp name clock type r ∙ sym (at_register m s inp name clock type r)

constant_same : (m : ModuleTree) → IsSmallModule m → (r : Ref) (c : Const) → IsIn c m.consts → r.path ≡ c.name ∷ [] → (x y : ℕ) → or_read ((scope_of m).number r) x ≡ or_read ((scope_of m).number r) y
constant_same m small r c is path x y =
    let e = constant_is m small r c is path in
    ap (λ (o : Option ℕ). or_read o x) e ∙ sym (ap (λ (o : Option ℕ). or_read o y) e)

leaf_same : (m : ModuleTree) (s inp : Values) → IsSmallModule m → (r : Ref) → IsLeaf m r →
    or_read ((scope_of m).number r) (names_at [] (before m s inp) r 0) ≡ or_read ((scope_of m).number r) (names_at [] (in_cycle m s inp) r 0)
leaf_same m s inp small r (bare, (name, path, inl readable)) =
    ap (or_read ((scope_of m).number r)) (ap (λ (q : Path). before m s inp q 0) path ∙ readable_same m s inp name small readable ∙ ap (λ (q : Path). in_cycle m s inp q 0) (sym path))
leaf_same m s inp small r (bare, (name, path, inr (c, is, named))) = constant_same m small r c is (path ∙ ap (λ (n : List ℕ). n ∷ []) named) (names_at [] (before m s inp) r 0) (names_at [] (in_cycle m s inp) r 0)

equation : (m : ModuleTree) (s inp : Values) → IsSmallModule m → (t : StmtTree) → IsIn t m.body → IsSmallStmt m t → Equation m [] (in_cycle m s inp) t
equation m s inp small (assignment name None e at equals) is (target, expr, widths) = λ none.
    at_other m s inp name none
    ∙ assigned_here (scope_of m) m.body (before m s inp) (inp (name ∷ []) 0) (assignment name None e at equals) small.once is
    ∙ value_agrees (IsLeaf m) (scope_of m) (names_at [] (before m s inp)) (names_at [] (in_cycle m s inp)) (leaf_same m s inp small) e expr
equation m s inp small (assignment name (Some place) e at equals) is wrong = absurd wrong
equation m s inp small (call name args at) is wrong = absurd wrong
equation m s inp small (pad io inner drive release at) is wrong = absurd wrong

-- a fact of the root is a fact of each module that is the root
pub at_root : (S : SourceTree) (m n : ModuleTree) (P : ModuleTree → Type 0) → S.modules ≡ m ∷ [] → IsRoot S n → P m → P n
at_root S m n P only is p = subst P (sym (root_is S m n only is)) p

pub from_root : (S : SourceTree) (m n : ModuleTree) (P : ModuleTree → Type 0) → S.modules ≡ m ∷ [] → IsRoot S n → P n → P m
from_root S m n P only is p = subst P (root_is S m n only is) p

a_cycle : (S : SourceTree) (small : IsSmallSource S) (s inp : Values) → Cycle S s inp (in_cycle small.root s inp)
a_cycle S small s inp =
    let m = small.root in
    record {
      holds = λ n root. at_root S m n (λ (n : ModuleTree). (t : StmtTree) → IsIn t n.body → Equation n [] (in_cycle m s inp) t) small.only root
          (λ t is. equation m s inp small.small t is (of_all (IsSmallStmt m) t m.body small.small.statements is));
      registers = λ path type r.
          let g = from_root S m r.root (λ (n : ModuleTree). IsRegisterOf n r.name r.clock type) small.only r.is_root r.register in
          ap (λ (q : Path). in_cycle m s inp q 0) r.leads ∙ at_register m s inp r.name r.clock type g ∙ ap (λ (q : Path). s q 0) (sym r.leads);
      inputs = λ path type i.
          let g = from_root S m i.root (λ (n : ModuleTree). IsInputOf n i.name type) small.only i.is_root i.input in
          ap (λ (q : Path). in_cycle m s inp q 0) i.leads ∙ at_input m s inp i.name type small.small g ∙ ap (λ (q : Path). inp q 0) (sym i.leads);
    }

-- two cycles agree on what can be read, and so on what is assigned
both_read : (S : SourceTree) (m : ModuleTree) (s inp v w : Values) → IsRoot S m → IsSmallModule m → Cycle S s inp v → Cycle S s inp w → (r : Ref) → IsLeaf m r →
    or_read ((scope_of m).number r) (names_at [] v r 0) ≡ or_read ((scope_of m).number r) (names_at [] w r 0)
both_read S m s inp v w root small c d r (bare, (name, path, inl (inl (type, i)))) =
    let is : IsInput S r.path type = record { root = m; is_root = root; name = name; input = i; leads = path } in
    ap (or_read ((scope_of m).number r)) (c.inputs r.path type is ∙ sym (d.inputs r.path type is))
both_read S m s inp v w root small c d r (bare, (name, path, inl (inr (clock, type, g)))) =
    let is : IsRegister S r.path type = record { root = m; is_root = root; name = name; clock = clock; register = g; leads = path } in
    ap (or_read ((scope_of m).number r)) (c.registers r.path type is ∙ sym (d.registers r.path type is))
both_read S m s inp v w root small c d r (bare, (name, path, inr (k, is, named))) = constant_same m small r k is (path ∙ ap (λ (n : List ℕ). n ∷ []) named) (names_at [] v r 0) (names_at [] w r 0)

both_assigned : (m : ModuleTree) (v w : Values) (t : StmtTree) → ((r : Ref) → IsLeaf m r → or_read ((scope_of m).number r) (names_at [] v r 0) ≡ or_read ((scope_of m).number r) (names_at [] w r 0)) → IsSmallStmt m t → ((clock : List ℕ) (type : Shape) → IsRegisterOf m (target_of t) clock type → ⊥) → Equation m [] v t → Equation m [] w t → v (target_of t ∷ []) 0 ≡ w (target_of t ∷ []) 0
both_assigned m v w (assignment name None e at equals) same is none first second =
    first none ∙ value_agrees (IsLeaf m) (scope_of m) (names_at [] v) (names_at [] w) same e is.1 ∙ sym (second none)
both_assigned m v w (assignment name (Some place) e at equals) same is none first second = absurd is
both_assigned m v w (call name args at) same is none first second = absurd is
both_assigned m v w (pad io inner drive release at) same is none first second = absurd is

same_signal : (S : SourceTree) (small : IsSmallSource S) (s inp v w : Values) → Cycle S s inp v → Cycle S s inp w → (path : Path) → IsSignal S path → v path 0 ≡ w path 0
same_signal S small s inp v w c d path (register type r) = c.registers path type r ∙ sym (d.registers path type r)
same_signal S small s inp v w c d path (input type i) = c.inputs path type i ∙ sym (d.inputs path type i)
same_signal S small s inp v w c d path (output o) =
    let m = small.root in
    let root : IsRoot S m = ([], small.only) in
    let declared : IsIn o.port m.ports = from_root S m o.root (λ (n : ModuleTree). IsIn o.port n.ports) small.only o.is_root o.declared in
    let found = from_map target_of o.port.name m.body (small.small.each o.port.name (inl (o.port, declared, o.outward, refl))) in
    let t = found.0 in
    let none : (clock : List ℕ) (type : Shape) → IsRegisterOf m (target_of t) clock type → ⊥ = λ clock type r.
    output_no_register m o.port clock type (names_distinct m small.small) declared (subst (λ (n : List ℕ). IsRegisterOf m n clock type) (sym found.2) r) in
    let e : v (target_of t ∷ []) 0 ≡ w (target_of t ∷ []) 0 = both_assigned m v w t (both_read S m s inp v w root small.small c d)
    (of_all (IsSmallStmt m) t m.body small.small.statements found.1) none (c.holds m root t found.1) (d.holds m root t found.1) in
    let there : path ≡ target_of t ∷ [] = o.leads ∙ ap (λ (n : List ℕ). n ∷ []) found.2 in
    ap (λ (q : Path). v q 0) there ∙ e ∙ ap (λ (q : Path). w q 0) (sym there)

-- the state behind a cycle
next_here : (m : ModuleTree) (v : Values) → AreDistinct (map target_of m.body) → (t : StmtTree) → IsIn t m.body → NextBy m [] v (by_name (assigned (scope_of m) m.body v 0)) t
next_here m v once (assignment name place e at equals) is = λ clock type r. assigned_here (scope_of m) m.body v 0 (assignment name place e at equals) once is
next_here m v once (call name args at) is = tt
next_here m v once (pad io inner drive release at) is = tt

both_next : (m : ModuleTree) (v s' t' : Values) (clock : List ℕ) (type : Shape) (t : StmtTree) → IsSmallStmt m t → IsRegisterOf m (target_of t) clock type → NextBy m [] v s' t → NextBy m [] v t' t → s' (target_of t ∷ []) 0 ≡ t' (target_of t ∷ []) 0
both_next m v s' t' clock type (assignment name None e at equals) is r first second = first clock type r ∙ sym (second clock type r)
both_next m v s' t' clock type (assignment name (Some place) e at equals) is r first second = absurd is
both_next m v s' t' clock type (call name args at) is r first second = absurd is
both_next m v s' t' clock type (pad io inner drive release at) is r first second = absurd is

same_next : (S : SourceTree) (small : IsSmallSource S) (v s' t' : Values) → Next S v s' → Next S v t' → (path : Path) (type : Shape) → IsRegister S path type → s' path 0 ≡ t' path 0
same_next S small v s' t' first second path type r =
    let m = small.root in
    let root : IsRoot S m = ([], small.only) in
    let g = from_root S m r.root (λ (n : ModuleTree). IsRegisterOf n r.name r.clock type) small.only r.is_root r.register in
    let found = from_map target_of r.name m.body (small.small.each r.name (inr (r.clock, type, g))) in
    let t = found.0 in
    let e : s' (target_of t ∷ []) 0 ≡ t' (target_of t ∷ []) 0 = both_next m v s' t' r.clock type t
    (of_all (IsSmallStmt m) t m.body small.small.statements found.1) (subst (λ (n : List ℕ). IsRegisterOf m n r.clock type) found.2 g)
    (first m root t found.1) (second m root t found.1) in
    let there : path ≡ target_of t ∷ [] = r.leads ∙ ap (λ (n : List ℕ). n ∷ []) found.2 in
    ap (λ (q : Path). s' q 0) there ∙ e ∙ ap (λ (q : Path). t' q 0) (sym there)

pub has_one_cycle : (S : SourceTree) → IsSmallSource S → (s inp : Values) → IsState S s → IsGiven S inp → HasOneCycle S s inp
has_one_cycle S small s inp state given =
    let m = small.root in
    record {
      cycle = (in_cycle m s inp, a_cycle S small s inp);
      same = same_signal S small s inp;
      next = λ v. (
        by_name (assigned (scope_of m) m.body v 0),
        λ n root. at_root S m n (λ (n : ModuleTree). (t : StmtTree) → IsIn t n.body → NextBy n [] v (by_name (assigned (scope_of m) m.body v 0)) t) small.only root
            (next_here m v small.small.once),
      );
      same_next = same_next S small;
      next_state = λ v s' cycle next. next_state S s inp v s' small state given cycle next;
    }
