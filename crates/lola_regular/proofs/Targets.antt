-- The targets of a body, by what they stand for: what is assigned, what is driven, what is stored, and what is called.
use Rattle.std.proofs.Common.{◌≡◌, ℕ, ◌+◌, Bool, true, false, cond, List, [], ◌∷◌, ◌++◌, map, Option, Some, None, refl, sym, ◌∙◌, ap, ap₂, subst, inl, inr, arith, append_assoc}
use Rattle.std.specs.Prelude.{bytes_eq, if◌then◌else◌}
use Rattle.std.proofs.lemmas.Bool.{cases_Bool, cond-false}
use Rattle.std.proofs.lemmas.List.{append-nil, map-append}
use Rattle.lola_bits.specs.Lists.{IsIn, AreDistinct}
use Rattle.lola_bits.proofs.Lists.{both_none}
use Rattle.lola_bits.proofs.Names.{same_name, is_same_name}
use Rattle.lola_bits.proofs.Tests.{not_both, or_neither, none_unless, none_where}
use Rattle.lola_tree.specs.declared.named.Named.{Named}
use Rattle.lola_tree.specs.declared.named.Ref.{Ref}
use Rattle.lola_tree.specs.declared.module.Way.{Way}
use Rattle.lola_tree.specs.declared.module.Way.TheVariants.{Inward, Outward, Both}
use Rattle.lola_tree.specs.declared.module.LocalKind.{LocalKind}
use Rattle.lola_tree.specs.declared.module.LocalKind.TheVariants.{Reg, Var, Inst}
use Rattle.lola_tree.specs.Tree.{Tree, number, whole, bit, slice, index, concat, negation, binary, choice, ActualTree, StmtTree, assignment, call, pad}
use Rattle.lola_tree.specs.Names.{Entry, port, constant, local, Names, first_name, ref_name}
use Rattle.lola_tree.specs.Signals.{is_inward}
use Rattle.lola_tree.specs.design.Calls.{bare_path, bare_name}
use Rattle.lola_width.specs.declared.uses.Use.{Use}
use Rattle.lola_width.specs.declared.uses.Use.TheVariants as use_
use Rattle.lola_width.specs.declared.interface.Pin.{Pin}
use Rattle.lola_width.specs.Interface.{Seen, instance_pins, listed}
use Rattle.lola_width.specs.Interface.{bare_name as bare_ref}
use Rattle.lola_width.specs.NameFaults.{suits, use_faults, is_receiver, is_pad, is_instance, expr_faults, bare_faults, clock_faults, way_faults, arg_faults, args_faults, stmt_faults, body_faults}
use Rattle.lola_width.specs.AssignmentFaults.{bare_target, arg_targets, args_targets, stmt_targets, body_targets, Taken, taken_with, again, twice}
use Rattle.lola_design.specs.Paths.{one_if}
use Rattle.lola_design.specs.Once.{name_count}
use Rattle.lola_regular.proofs.Named.{name_count_append}
use Rattle.lola_regular.proofs.Ways.{GoodPins, GoodSeen}

-- a number, or 0
abbrev pub when : Bool → ℕ → ℕ
when true k = k
when false k = 0

when_add : (b : Bool) (j k : ℕ) → when b (j + k) ≡ when b j + when b k
when_add true j k = refl
when_add false j k = omega arith

when_zero : (b : Bool) → when b 0 ≡ 0
when_zero true = refl
when_zero false = refl

-- the names that pass a test
abbrev pub one_kept : Bool → List ℕ → List (List ℕ)
one_kept b x = if b then x ∷ [] else []

abbrev pub kept : (List ℕ → Bool) → List (List ℕ) → List (List ℕ)
kept test [] = []
kept test (x ∷ xs) = one_kept (test x) x ++ kept test xs

kept_append : (test : List ℕ → Bool) (xs ys : List (List ℕ)) → kept test (xs ++ ys) ≡ kept test xs ++ kept test ys
kept_append test [] ys = refl
kept_append test (x ∷ xs) ys = ap (λ (l : List (List ℕ)). one_kept (test x) x ++ l) (kept_append test xs ys) ∙ sym (append_assoc (one_kept (test x) x) (kept test xs) (kept test ys))

here_count : (b : Bool) (x : List ℕ) → name_count x (one_kept b x) ≡ when b (one_if (bytes_eq x x))
here_count true x = omega arith
here_count false x = refl

other_count : (b c : Bool) (x n : List ℕ) → bytes_eq x n ≡ false → name_count n (one_kept b x) ≡ when c (one_if (bytes_eq x n))
other_count true true x n e = omega arith
other_count true false x n e = let z : one_if (bytes_eq x n) ≡ 0 = ap one_if e in omega arith
other_count false true x n e = let z : one_if (bytes_eq x n) ≡ 0 = ap one_if e in omega arith
other_count false false x n e = refl

one_count : (test : List ℕ → Bool) (x n : List ℕ) → name_count n (one_kept (test x) x) ≡ when (test n) (one_if (bytes_eq x n))
one_count test x n = elim (cases_Bool (bytes_eq x n)) [
  | inl same ↦ subst (λ (k : List ℕ). name_count k (one_kept (test x) x) ≡ when (test k) (one_if (bytes_eq x k))) (is_same_name x n same) (here_count (test x) x)
  | inr other ↦ other_count (test x) (test n) x n other
]

pub kept_count : (test : List ℕ → Bool) (n : List ℕ) (xs : List (List ℕ)) → name_count n (kept test xs) ≡ when (test n) (name_count n xs)
kept_count test n [] = sym (when_zero (test n))
kept_count test n (x ∷ xs) =
    name_count_append n (one_kept (test x) x) (kept test xs)
    ∙ ap₂ (λ (a b : ℕ). a + b) (one_count test x n) (kept_count test n xs)
    ∙ sym (when_add (test n) (one_if (bytes_eq x n)) (name_count n xs))

-- what names stand for
abbrev pub said_entry : Option Entry → Bool
said_entry None = false
said_entry (Some e) = is_receiver e

abbrev pub pad_entry : Option Entry → Bool
pad_entry None = false
pad_entry (Some e) = is_pad e

abbrev pub instance_entry : Option Entry → Bool
instance_entry None = false
instance_entry (Some e) = is_instance e

-- a class of targets: a test on names, the ways of arguments that are in it, and whether calls are
pub record IsClass (names : Names) (test : List ℕ → Bool) (w : Way → Bool) (calls : Bool) : Type 0 where
  pub receiver : (n : List ℕ) → said_entry (names n) ≡ true → test n ≡ w Outward
  pub pad : (n : List ℕ) → pad_entry (names n) ≡ true → test n ≡ w Both
  pub called : (n : List ℕ) → instance_entry (names n) ≡ true → test n ≡ calls
  pub inward : w Inward ≡ false

-- the arguments of ports of some ways, by their names
abbrev pub way_args : (Way → Bool) → List Pin → List ActualTree → List (List ℕ)
way_args w [] args = []
way_args w (pin ∷ pins) [] = []
way_args w (pin ∷ pins) (a ∷ args) = one_kept (w pin.way) (bare_name a.value) ++ way_args w pins args

abbrev pub target_names : List Named → List (List ℕ)
target_names targets = map (λ (t : Named). t.name) targets

-- a use that suits
pub suited : (used : Use) (at : ℕ) (name : List ℕ) (o : Option Entry) → use_faults used at name o ≡ [] → (e : Entry) × (o ≡ Some e) × (suits used e ≡ true)
suited used at name None none = absurd (cc)
suited used at name (Some e) none = (e, refl, none_unless (suits used e) _ none)

pub receiver_is : (at : ℕ) (name : List ℕ) (o : Option Entry) → use_faults use_.Receiver at name o ≡ [] → said_entry o ≡ true
receiver_is at name o none = let s = suited use_.Receiver at name o none in ap said_entry s.1 ∙ s.2

pub pad_is : (at : ℕ) (name : List ℕ) (o : Option Entry) → use_faults use_.Pad at name o ≡ [] → pad_entry o ≡ true
pad_is at name o none = let s = suited use_.Pad at name o none in ap pad_entry s.1 ∙ s.2

pub called_is : (at : ℕ) (name : List ℕ) (o : Option Entry) → use_faults use_.Called at name o ≡ [] → instance_entry o ≡ true
called_is at name o none = let s = suited use_.Called at name o none in ap instance_entry s.1 ∙ s.2

-- a bare name
pub bare_same : (e : Tree) (r : Ref) → bare_ref e ≡ Some r → bare_path e ≡ r.path
bare_same (number n w at) r is = absurd (cc)
bare_same (whole of) r is = let same : of ≡ r = cc in ap (λ (k : Ref). k.path) same
bare_same (bit of place at) r is = absurd (cc)
bare_same (slice of high low at) r is = absurd (cc)
bare_same (index of place at) r is = absurd (cc)
bare_same (concat parts at) r is = absurd (cc)
bare_same (negation e at) r is = absurd (cc)
bare_same (binary o a b at) r is = absurd (cc)
bare_same (choice test first second at) r is = absurd (cc)

pub bare_is : (names : Names) (clock : Option (List ℕ)) (used : Use) (a : ActualTree) (o : Option Ref) → bare_faults names clock used a o ≡ [] →
    (r : Ref) × (o ≡ Some r) × (use_faults used r.at (ref_name r) (names (ref_name r)) ≡ [])
bare_is names clock used a None none = absurd (let f = (both_none (expr_faults names clock a.value) _ none).1 in cc)
bare_is names clock used a (Some r) none = (r, refl, none)

-- an argument
kept_is : (test : List ℕ → Bool) (b : Bool) (x y : List ℕ) → test x ≡ b → x ≡ y → kept test (x ∷ []) ≡ one_kept b y
kept_is test b x y e same = append-nil (one_kept (test x) x) ∙ ap₂ (λ (c : Bool) (z : List ℕ). one_kept c z) e same

bare_kept : (names : Names) (clock : Option (List ℕ)) (used : Use) (test : List ℕ → Bool) (b : Bool) (a : ActualTree) → ((r : Ref) → use_faults used r.at (ref_name r) (names (ref_name r)) ≡ [] → test (ref_name r) ≡ b) →
    bare_faults names clock used a (bare_ref a.value) ≡ [] → kept test (target_names (bare_target (bare_ref a.value))) ≡ one_kept b (bare_name a.value)
bare_kept names clock used test b a suit none =
    let r = bare_is names clock used a (bare_ref a.value) none in
    let called : ref_name r.0 ≡ bare_name a.value = ap first_name (sym (bare_same a.value r.0 r.1)) in
    ap (λ (o : Option Ref). kept test (target_names (bare_target o))) r.1 ∙ kept_is test b (ref_name r.0) (bare_name a.value) (suit r.0 r.2) called

arg_kept : (names : Names) (clock : Option (List ℕ)) (test : List ℕ → Bool) (w : Way → Bool) (calls : Bool) → IsClass names test w calls → (k : Bool) (v : Way) (a : ActualTree) → (k ≡ true → v ≡ Inward) →
    cond k (clock_faults names clock a (bare_ref a.value)) (way_faults names clock v a) ≡ [] →
    kept test (target_names (cond (is_inward v) [] (bare_target (bare_ref a.value)))) ≡ one_kept (w v) (bare_name a.value)
arg_kept names clock test w calls class k Inward a good none = sym (cond-false (w Inward) (bare_name a.value ∷ []) [] class.inward)
arg_kept names clock test w calls class true Outward a good none = absurd (let e = good refl in cc)
arg_kept names clock test w calls class false Outward a good none =
    bare_kept names clock use_.Receiver test (w Outward) a (λ r free. class.receiver (ref_name r) (receiver_is r.at (ref_name r) (names (ref_name r)) free)) none
arg_kept names clock test w calls class true Both a good none = absurd (let e = good refl in cc)
arg_kept names clock test w calls class false Both a good none =
    bare_kept names clock use_.Pad test (w Both) a (λ r free. class.pad (ref_name r) (pad_is r.at (ref_name r) (names (ref_name r)) free)) none

no_pins : (args : List ActualTree) → args_targets args [] ≡ []
no_pins [] = refl
no_pins (a ∷ args) = no_pins args

args_kept : (names : Names) (clock : Option (List ℕ)) (test : List ℕ → Bool) (w : Way → Bool) (calls : Bool) → IsClass names test w calls → (pins : List Pin) (args : List ActualTree) → GoodPins pins →
    args_faults names clock args pins ≡ [] → kept test (target_names (args_targets args pins)) ≡ way_args w pins args
args_kept names clock test w calls class [] args good none = ap (λ (l : List Named). kept test (target_names l)) (no_pins args)
args_kept names clock test w calls class (pin ∷ pins) [] good none = refl
args_kept names clock test w calls class (pin ∷ pins) (a ∷ args) good none =
    let two = both_none (arg_faults names clock (Some pin) a) (args_faults names clock args pins) none in
    let front = arg_targets (Some pin) a.value in
    ap (kept test) (map-append (λ (t : Named). t.name) front (args_targets args pins))
    ∙ kept_append test (target_names front) (target_names (args_targets args pins))
    ∙ ap₂ (λ (x y : List (List ℕ)). x ++ y) (arg_kept names clock test w calls class pin.clock pin.way a good.0 two.0) (args_kept names clock test w calls class pins args good.1 two.1)

-- a statement: what it has in a class itself, and what it passes to a call
abbrev pub own_stmt : (List ℕ → Bool) → (Way → Bool) → Bool → StmtTree → List (List ℕ)
own_stmt test w calls (assignment name place e at equals) = one_kept (test name) name
own_stmt test w calls (call name args at) = one_kept calls name
own_stmt test w calls (pad io inner drive release at) = one_kept (w Both) io.name ++ one_kept (w Outward) inner.name

abbrev pub passed_stmt : Names → Seen → (Way → Bool) → StmtTree → List (List ℕ)
passed_stmt names seen w (assignment name place e at equals) = []
passed_stmt names seen w (call name args at) = way_args w (listed (instance_pins seen (names name))) args
passed_stmt names seen w (pad io inner drive release at) = []

instance_good : (seen : Seen) (o : Option Entry) → GoodSeen seen → GoodPins (listed (instance_pins seen o))
instance_good seen None good = tt
instance_good seen (Some (port p)) good = tt
instance_good seen (Some (constant c)) good = tt
instance_good seen (Some (local l)) good = of_kind l.kind where
  of_kind : (k : LocalKind) → GoodPins (listed (instance_pins seen (Some (local (record l { kind = k })))))
  of_kind (Reg clock type) = tt
  of_kind (Var type) = tt
  of_kind (Inst of) = good of.name

stmt_kept : (names : Names) (seen : Seen) (clock : Option (List ℕ)) (test : List ℕ → Bool) (w : Way → Bool) (calls : Bool) → IsClass names test w calls → GoodSeen seen → (t : StmtTree) →
    stmt_faults names seen clock t ≡ [] → kept test (target_names (stmt_targets names seen t)) ≡ own_stmt test w calls t ++ passed_stmt names seen w t
stmt_kept names seen clock test w calls class good (assignment name None e at equals) none = refl
stmt_kept names seen clock test w calls class good (assignment name (Some place) e at equals) none = refl
stmt_kept names seen clock test w calls class good (call name args at) none =
    let pins = listed (instance_pins seen (names name)) in
    let two = both_none (use_faults use_.Called at name (names name)) (args_faults names clock args pins) none in
    ap₂ (λ (x y : List (List ℕ)). x ++ y) (ap (λ (b : Bool). one_kept b name) (class.called name (called_is at name (names name) two.0)))
    (args_kept names clock test w calls class pins args (instance_good seen (names name) good) two.1)
stmt_kept names seen clock test w calls class good (pad io inner drive release at) none =
    let one = both_none (use_faults use_.Pad io.at io.name (names io.name)) _ none in
    let two = both_none (use_faults use_.Receiver inner.at inner.name (names inner.name)) _ one.1 in
    ap₂ (λ (x y : List (List ℕ)). x ++ y)
    (ap (λ (b : Bool). one_kept b io.name) (class.pad io.name (pad_is io.at io.name (names io.name) one.0)))
    (ap (λ (b : Bool). one_kept b inner.name ++ []) (class.receiver inner.name (receiver_is inner.at inner.name (names inner.name) two.0)))
    ∙ sym (append_assoc (one_kept (w Both) io.name) (one_kept (w Outward) inner.name) [])

-- a body
abbrev pub own_body : (List ℕ → Bool) → (Way → Bool) → Bool → List StmtTree → List (List ℕ)
own_body test w calls [] = []
own_body test w calls (t ∷ ts) = own_stmt test w calls t ++ own_body test w calls ts

abbrev pub passed_body : Names → Seen → (Way → Bool) → List StmtTree → List (List ℕ)
passed_body names seen w [] = []
passed_body names seen w (t ∷ ts) = passed_stmt names seen w t ++ passed_body names seen w ts

pub body_count : (names : Names) (seen : Seen) (clock : Option (List ℕ)) (test : List ℕ → Bool) (w : Way → Bool) (calls : Bool) → IsClass names test w calls → GoodSeen seen → (ts : List StmtTree) →
    body_faults names seen clock ts ≡ [] → (n : List ℕ) →
    name_count n (own_body test w calls ts) + name_count n (passed_body names seen w ts) ≡ name_count n (kept test (target_names (body_targets names seen ts)))
body_count names seen clock test w calls class good [] none n = omega arith
body_count names seen clock test w calls class good (t ∷ ts) none n =
    let two = both_none (stmt_faults names seen clock t) (body_faults names seen clock ts) none in
    let targets = stmt_targets names seen t in
    let rest = body_targets names seen ts in
    let here : name_count n (kept test (target_names targets)) ≡ name_count n (own_stmt test w calls t) + name_count n (passed_stmt names seen w t) =
    ap (name_count n) (stmt_kept names seen clock test w calls class good t two.0) ∙ name_count_append n (own_stmt test w calls t) (passed_stmt names seen w t) in
    let split : name_count n (kept test (target_names (targets ++ rest))) ≡ name_count n (kept test (target_names targets)) + name_count n (kept test (target_names rest)) =
    ap (λ (l : List (List ℕ)). name_count n (kept test l)) (map-append (λ (x : Named). x.name) targets rest)
    ∙ ap (name_count n) (kept_append test (target_names targets) (target_names rest))
    ∙ name_count_append n (kept test (target_names targets)) (kept test (target_names rest)) in
    let own = name_count_append n (own_stmt test w calls t) (own_body test w calls ts) in
    let passed = name_count_append n (passed_stmt names seen w t) (passed_body names seen w ts) in
    let later = body_count names seen clock test w calls class good ts two.1 n in
    omega arith

-- no target comes twice
pub distinct_targets : (taken : Taken) (ts : List Named) → twice taken ts ≡ [] → AreDistinct (target_names ts) × ((n : List ℕ) → IsIn n (target_names ts) → taken n ≡ false)
distinct_targets taken [] none = (tt, λ n among. absurd among)
distinct_targets taken (t ∷ ts) none =
    let split = both_none (again taken t.at t.name) (twice (taken_with taken t.name) ts) none in
    let ih = distinct_targets (taken_with taken t.name) ts split.1 in
    let apart : (n : List ℕ) → IsIn n (target_names ts) → (bytes_eq t.name n ≡ false) × (taken n ≡ false) = λ n among. or_neither (bytes_eq t.name n) (taken n) (ih.1 n among) in (
      (λ among. not_both (same_name t.name t.name refl) (apart t.name among).0, ih.0),
      λ n among. elim among [
        | inl same ↦ ap taken same ∙ none_where (taken t.name) _ split.0
        | inr later ↦ (apart n later).1
      ],
    )
