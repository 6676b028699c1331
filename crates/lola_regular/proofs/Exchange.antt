-- The arguments of calls, by statements and by the instances that are called.
use Rattle.std.proofs.Common.{◌≡◌, ◌≢◌, ℕ, ◌+◌, Bool, true, List, [], ◌∷◌, ◌++◌, Option, Some, None, refl, sym, ◌∙◌, ap, ap₂, subst, inl, inr, arith}
use Rattle.std.specs.Prelude.{bytes_eq}
use Rattle.std.specs.List.{AllByRecursion}
use Rattle.std.proofs.lemmas.Bool.{cases_Bool, cond-true, cond-false}
use Rattle.std.proofs.lemmas.List.{map-append}
use Rattle.lola_bits.specs.Lists.{IsIn, AreDistinct}
use Rattle.lola_bits.proofs.Lists.{both_none, in_back, to_map, distinct_back}
use Rattle.lola_bits.proofs.Names.{same_name, is_same_name, other_name}
use Rattle.lola_tree.specs.declared.named.Named.{Named}
use Rattle.lola_tree.specs.declared.module.Way.{Way}
use Rattle.lola_tree.specs.declared.module.Local.{Local}
use Rattle.lola_tree.specs.Tree.{ActualTree, StmtTree, assignment, call, pad}
use Rattle.lola_tree.specs.Names.{Entry, port, constant, local, Names}
use Rattle.lola_tree.specs.design.Calls.{args_of}
use Rattle.lola_width.specs.declared.uses.Use.TheVariants as use_
use Rattle.lola_width.specs.declared.interface.Pin.{Pin}
use Rattle.lola_width.specs.Interface.{Seen, kind_pins, instance_pins, listed}
use Rattle.lola_width.specs.NameFaults.{use_faults, args_faults, stmt_faults, body_faults}
use Rattle.lola_width.specs.AssignmentFaults.{args_targets, body_targets}
use Rattle.lola_design.specs.Once.{name_count}
use Rattle.lola_regular.specs.Written.{IsWrittenArgument, IsWrittenStmt}
use Rattle.lola_regular.proofs.Named.{name_count_append, local_names}
use Rattle.lola_regular.proofs.Targets.{way_args, target_names, instance_entry, called_is, passed_body}

-- what an instance passes in its call, and all instances
abbrev pub args_for : Seen → (Way → Bool) → List StmtTree → Local → List (List ℕ)
args_for seen w body l = way_args w (listed (kind_pins seen l.kind)) (args_of body l.name)

abbrev pub by_locals : Seen → (Way → Bool) → List StmtTree → List Local → List (List ℕ)
by_locals seen w body [] = []
by_locals seen w body (l ∷ ls) = args_for seen w body l ++ by_locals seen w body ls

pub no_args : (w : Way → Bool) (pins : List Pin) → way_args w pins [] ≡ []
no_args w [] = refl
no_args w (pin ∷ pins) = refl

no_calls : (seen : Seen) (w : Way → Bool) (ls : List Local) → by_locals seen w [] ls ≡ []
no_calls seen w [] = refl
no_calls seen w (l ∷ ls) = ap₂ (λ (x y : List (List ℕ)). x ++ y) (no_args w (listed (kind_pins seen l.kind))) (no_calls seen w ls)

same_locals : (seen : Seen) (w : Way → Bool) (body other : List StmtTree) (ls : List Local) → ((l : Local) → IsIn l ls → args_of body l.name ≡ args_of other l.name) →
    by_locals seen w body ls ≡ by_locals seen w other ls
same_locals seen w body other [] same = refl
same_locals seen w body other (l ∷ ls) same =
    ap₂ (λ (x y : List (List ℕ)). x ++ y) (ap (way_args w (listed (kind_pins seen l.kind))) (same l (inl refl))) (same_locals seen w body other ls (λ k is. same k (inr is)))

-- a call in front, of a name that is none of these instances' or of one of them
pub not_called : (name : List ℕ) (args : List ActualTree) (at : ℕ) (body : List StmtTree) (other : List ℕ) → name ≢ other → args_of (call name args at ∷ body) other ≡ args_of body other
not_called name args at body other apart = cond-false (bytes_eq name other) args (args_of body other) (other_name name other apart)

pub called_here : (name : List ℕ) (args : List ActualTree) (at : ℕ) (body : List StmtTree) (other : List ℕ) → name ≡ other → args_of (call name args at ∷ body) other ≡ args
called_here name args at body other same = cond-true (bytes_eq name other) args (args_of body other) (same_name name other same)

one_more : (seen : Seen) (w : Way → Bool) (name : List ℕ) (args : List ActualTree) (at : ℕ) (body : List StmtTree) (pins : List Pin) (ls : List Local) → IsIn name (local_names ls) → AreDistinct (local_names ls) →
    args_of body name ≡ [] → ((l : Local) → IsIn l ls → l.name ≡ name → listed (kind_pins seen l.kind) ≡ pins) → (n : List ℕ) →
    name_count n (by_locals seen w (call name args at ∷ body) ls) ≡ name_count n (way_args w pins args) + name_count n (by_locals seen w body ls)
one_more seen w name args at body pins [] is distinct none are n = absurd is
one_more seen w name args at body pins (l ∷ ls) (inl same) distinct none are n =
    let more = call name args at ∷ body in
    let here : args_for seen w more l ≡ way_args w pins args = ap₂ (way_args w) (are l (inl refl) (sym same)) (called_here name args at body l.name same) in
    let before : args_for seen w body l ≡ [] = ap (way_args w (listed (kind_pins seen l.kind))) (ap (args_of body) (sym same) ∙ none) ∙ no_args w (listed (kind_pins seen l.kind)) in
    let rest : by_locals seen w more ls ≡ by_locals seen w body ls =
    same_locals seen w more body ls (λ k is. not_called name args at body k.name (λ e. distinct.0 (subst (λ (x : List ℕ). IsIn x (local_names ls)) (sym e ∙ same) (to_map (λ (j : Local). j.name) k ls is)))) in
    let left : name_count n (by_locals seen w more (l ∷ ls)) ≡ name_count n (way_args w pins args) + name_count n (by_locals seen w body ls) =
    ap (name_count n) (ap₂ (λ (x y : List (List ℕ)). x ++ y) here rest) ∙ name_count_append n (way_args w pins args) (by_locals seen w body ls) in
    let right : by_locals seen w body (l ∷ ls) ≡ by_locals seen w body ls = ap (λ (x : List (List ℕ)). x ++ by_locals seen w body ls) before in
    left ∙ ap (λ (x : List (List ℕ)). name_count n (way_args w pins args) + name_count n x) (sym right)
one_more seen w name args at body pins (l ∷ ls) (inr later) distinct none are n =
    let more = call name args at ∷ body in
    let apart : name ≢ l.name = λ e. distinct.0 (subst (λ (x : List ℕ). IsIn x (local_names ls)) e later) in
    let here : args_for seen w more l ≡ args_for seen w body l = ap (way_args w (listed (kind_pins seen l.kind))) (not_called name args at body l.name apart) in
    let rest = one_more seen w name args at body pins ls later distinct.1 none (λ k is. are k (inr is)) n in
    let left = name_count_append n (args_for seen w more l) (by_locals seen w more ls) in
    let same : name_count n (args_for seen w more l) ≡ name_count n (args_for seen w body l) = ap (name_count n) here in
    let right = name_count_append n (args_for seen w body l) (by_locals seen w body ls) in
    omega arith

-- without a target of its name an instance has no arguments
pub rest_target : (n : List ℕ) (xs ys : List Named) → IsIn n (target_names ys) → IsIn n (target_names (xs ++ ys))
rest_target n xs ys is = subst (λ (l : List (List ℕ)). IsIn n l) (sym (map-append (λ (t : Named). t.name) xs ys)) (in_back n (target_names xs) (target_names ys) is)

pub rest_distinct : (xs ys : List Named) → AreDistinct (target_names (xs ++ ys)) → AreDistinct (target_names ys)
rest_distinct xs ys distinct = distinct_back (target_names xs) (target_names ys) (subst (λ (l : List (List ℕ)). AreDistinct l) (map-append (λ (t : Named). t.name) xs ys) distinct)

args_absent : (names : Names) (seen : Seen) (body : List StmtTree) (name : List ℕ) → (IsIn name (target_names (body_targets names seen body)) → ⊥) → args_of body name ≡ []
args_absent names seen [] name none = refl
args_absent names seen (assignment other place e at equals ∷ body) name none = args_absent names seen body name (λ is. none (inr is))
args_absent names seen (call other args at ∷ body) name none =
    not_called other args at body name (λ same. none (inl (sym same)))
    ∙ args_absent names seen body name (λ is. none (inr (rest_target name (args_targets args (listed (instance_pins seen (names other)))) (body_targets names seen body) is)))
args_absent names seen (pad io inner drive release at ∷ body) name none = args_absent names seen body name (λ is. none (inr (inr is)))

-- what is an instance is a local name
pub instance_local : (o : Option Entry) → instance_entry o ≡ true → (l : Local) × (o ≡ Some (local l))
instance_local None is = absurd (cc)
instance_local (Some (port p)) is = absurd (cc)
instance_local (Some (constant c)) is = absurd (cc)
instance_local (Some (local l)) is = (l, refl)

pub exchange : (names : Names) (seen : Seen) (clock : Option (List ℕ)) (w : Way → Bool) (locals : List Local) → AreDistinct (local_names locals) →
    ((l : Local) → IsIn l locals → names l.name ≡ Some (local l)) → ((name : List ℕ) (l : Local) → names name ≡ Some (local l) → IsIn l locals × (name ≡ l.name)) →
    (body : List StmtTree) → body_faults names seen clock body ≡ [] → AreDistinct (target_names (body_targets names seen body)) → (n : List ℕ) →
    name_count n (passed_body names seen w body) ≡ name_count n (by_locals seen w body locals)
exchange names seen clock w locals once named found [] none distinct n = ap (name_count n) (sym (no_calls seen w locals))
exchange names seen clock w locals once named found (assignment name place e at equals ∷ body) none distinct n =
    let two = both_none (stmt_faults names seen clock (assignment name place e at equals)) (body_faults names seen clock body) none in
    exchange names seen clock w locals once named found body two.1 distinct.1 n
    ∙ ap (name_count n) (same_locals seen w body (assignment name place e at equals ∷ body) locals (λ l is. refl))
exchange names seen clock w locals once named found (call name args at ∷ body) none distinct n =
    let two = both_none (stmt_faults names seen clock (call name args at)) (body_faults names seen clock body) none in
    let pins = listed (instance_pins seen (names name)) in
    let three = both_none (use_faults use_.Called at name (names name)) (args_faults names clock args pins) two.0 in
    let l = instance_local (names name) (called_is at name (names name) three.0) in
    let there = found name l.0 l.1 in
    let among : IsIn name (local_names locals) = subst (λ (x : List ℕ). IsIn x (local_names locals)) (sym there.1) (to_map (λ (j : Local). j.name) l.0 locals there.0) in
    let targets = args_targets args pins in
    let empty : args_of body name ≡ [] = args_absent names seen body name (λ is. distinct.0 (rest_target name targets (body_targets names seen body) is)) in
    let same_pins : (k : Local) → IsIn k locals → k.name ≡ name → listed (kind_pins seen k.kind) ≡ pins =
    λ k is e. ap (λ (o : Option Entry). listed (instance_pins seen o)) (sym (named k is) ∙ ap names e) in
    let more = one_more seen w name args at body pins locals among once empty same_pins n in
    let later = exchange names seen clock w locals once named found body two.1 (rest_distinct targets (body_targets names seen body) distinct.1) n in
    let split = name_count_append n (way_args w pins args) (passed_body names seen w body) in
    omega arith
exchange names seen clock w locals once named found (pad io inner drive release at ∷ body) none distinct n =
    let two = both_none (stmt_faults names seen clock (pad io inner drive release at)) (body_faults names seen clock body) none in
    exchange names seen clock w locals once named found body two.1 distinct.1.1 n
    ∙ ap (name_count n) (same_locals seen w body (pad io inner drive release at ∷ body) locals (λ l is. refl))

-- the arguments of a name are those of a statement
pub args_free : (names : Names) (seen : Seen) (clock : Option (List ℕ)) (body : List StmtTree) (name : List ℕ) → body_faults names seen clock body ≡ [] →
    args_faults names clock (args_of body name) (listed (instance_pins seen (names name))) ≡ []
args_free names seen clock [] name none = refl
args_free names seen clock (assignment other place e at equals ∷ body) name none =
    args_free names seen clock body name (both_none (stmt_faults names seen clock (assignment other place e at equals)) (body_faults names seen clock body) none).1
args_free names seen clock (call other args at ∷ body) name none =
    let two = both_none (stmt_faults names seen clock (call other args at)) (body_faults names seen clock body) none in
    let three = both_none (use_faults use_.Called at other (names other)) (args_faults names clock args (listed (instance_pins seen (names other)))) two.0 in
    elim (cases_Bool (bytes_eq other name)) [
      | inl same ↦
          let e = is_same_name other name same in
          subst (λ (l : List ActualTree). args_faults names clock l (listed (instance_pins seen (names name))) ≡ []) (sym (called_here other args at body name e))
          (subst (λ (x : List ℕ). args_faults names clock args (listed (instance_pins seen (names x))) ≡ []) e three.1)
      | inr apart ↦
          subst (λ (l : List ActualTree). args_faults names clock l (listed (instance_pins seen (names name))) ≡ []) (sym (cond-false (bytes_eq other name) args (args_of body name) apart))
          (args_free names seen clock body name two.1)
    ]
args_free names seen clock (pad io inner drive release at ∷ body) name none =
    args_free names seen clock body name (both_none (stmt_faults names seen clock (pad io inner drive release at)) (body_faults names seen clock body) none).1

pub args_written : (body : List StmtTree) (name : List ℕ) → AllByRecursion IsWrittenStmt body → AllByRecursion IsWrittenArgument (args_of body name)
args_written [] name written = tt
args_written (assignment other place e at equals ∷ body) name written = args_written body name written.1
args_written (call other args at ∷ body) name written = elim (cases_Bool (bytes_eq other name)) [
  | inl same ↦ subst (AllByRecursion IsWrittenArgument) (sym (cond-true (bytes_eq other name) args (args_of body name) same)) written.0
  | inr apart ↦ subst (AllByRecursion IsWrittenArgument) (sym (cond-false (bytes_eq other name) args (args_of body name) apart)) (args_written body name written.1)
]
args_written (pad io inner drive release at ∷ body) name written = args_written body name written.1
