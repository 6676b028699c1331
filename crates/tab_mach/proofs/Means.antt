-- What is made of the vectors of the parts of an expression is the vector of the whole.
use Rattle.std.proofs.Common.{◌≡◌, ℕ, zero, suc, ◌+◌, ◌*◌, ◌^◌, Bool, true, false, List, Option, Some, None, refl, arith, ap, sym, ◌∙◌, mul_assoc, inl, inr, cond, length}
use Rattle.std.specs.Prelude.{nat_eq, if◌then◌else◌, bytes_eq, codes}
use Rattle.std.proofs.lemmas.Bool.Decides.{nat_tests}
use Rattle.std.proofs.lemmas.Bool.{cases_lt}
use Rattle.std.proofs.lemmas.Nat.{pow-add}
use Rattle.lola_bits.specs.declared.op.Op.{Op}
use Rattle.lola_bits.specs.declared.op.Op.TheVariants as op
use Rattle.lola_bits.specs.declared.vector.Bits.{Bits}
use Rattle.lola_bits.specs.Number.{bit_at, slice_of, joined, inverted, operate}
use Rattle.lola_tree.specs.declared.named.Ref.{Ref}
use Rattle.lola_tree.specs.declared.named.Count.{Count}
use Rattle.tab_mach.specs.Known.{parts_run}
use Rattle.lola_tree.specs.Tree.{Tree, Parts, one_part, whole, bit, slice, index, concat, binary}
use Rattle.lola_tree.specs.Names.{ref_name}
use Rattle.lola_tree.specs.Width.{place_width, same_width, defined_width, bit_width, slice_width, operator_width, repeated_width, joined_width, checked_width, is_width, width, total_width}
use Rattle.lola_tree.specs.Value.{or_zero, repeated, value, value_of_parts}
use Rattle.tab_tree.specs.declared.value.StateValue.{StateValue}
use Rattle.tab_tree.specs.declared.value.StateValue.TheVariants.{One, Many}
use Rattle.tab_tree.specs.Names.{vector, vector_by, Names, mapped, form_of, forms_of, scope_by, look, bare_name, numbered, or_else, form_width, form_element, form_place, number_at, first_width, nth_number, table_vector, fixed}
use Rattle.tab_mach.specs.Vectors.{whole_vector, element_at, bit_taken, slice_taken, negated, both, chosen, cut_vector, run_by, joined_run, repeated_run, whole_run, IsRun}
use Rattle.tab_mach.proofs.Runs.{small_run, large_run, runs_join}

-- the width and the number of an expression, and those of parts
abbrev wide : Names StateValue → Tree → Option ℕ
wide names e = width (scope_by (forms_of names)) e

abbrev numeral : Names StateValue → Tree → ℕ
numeral names e = value (scope_by (forms_of names)) e (λ r n. number_at (look names r) n)

abbrev total : Names StateValue → Parts → Option ℕ
total names parts = total_width (scope_by (forms_of names)) parts

abbrev bits : Names StateValue → Parts → ℕ
bits names parts = value_of_parts (scope_by (forms_of names)) parts (λ r n. number_at (look names r) n)

-- the form of what a name stands for
if_mapped : {X Y : Type 0} (f : X → Y) (b : Bool) (x y : Option X) → (if b then mapped f x else mapped f y) ≡ mapped f (if b then x else y)
if_mapped f true x y = refl
if_mapped f false x y = refl

else_mapped : {X Y : Type 0} (f : X → Y) (o : Option ℕ) (g : ℕ → Option X) (y : Option X) → or_else o (λ j. mapped f (g j)) (mapped f y) ≡ mapped f (or_else o g y)
else_mapped f None g y = refl
else_mapped f (Some j) g y = refl

bare_form : (names : Names StateValue) (name : List ℕ) → bare_name (forms_of names) name ≡ mapped form_of (bare_name names name)
bare_form names name =
    let last = else_mapped form_of (numbered 116 name) names.turned (names.named name) in
    let words = ap (or_else (numbered 100 name) (λ j. mapped form_of (names.loaded j))) last ∙ else_mapped form_of (numbered 100 name) names.loaded (or_else (numbered 116 name) names.turned (names.named name)) in
    ap (λ o. if bytes_eq name (codes "i") then mapped form_of names.word else if bytes_eq name (codes "k") then mapped form_of names.count else o) words
    ∙ ap (λ o. if bytes_eq name (codes "i") then mapped form_of names.word else o) (if_mapped form_of (bytes_eq name (codes "k")) names.count _)
    ∙ if_mapped form_of (bytes_eq name (codes "i")) names.word _

pub look_form : (names : Names StateValue) (r : Ref) → look (forms_of names) r ≡ mapped form_of (look names r)
look_form names r =
    ap (λ o. if r.source then mapped form_of (names.register r.path) else o) (bare_form names (ref_name r))
    ∙ if_mapped form_of r.source (names.register r.path) (bare_name names (ref_name r))

-- widths of which one is undefined
defined_none : (o : Option ℕ) → defined_width None o ≡ None
defined_none None = refl
defined_none (Some w) = refl

same_none : (o : Option ℕ) → same_width o None ≡ None
same_none None = refl
same_none (Some w) = refl

vector_none : {o : Option ℕ} (n : ℕ) → o ≡ None → None ≡ vector_by o n
vector_none n e = sym (ap (λ w. vector_by w n) e)

-- a name
whole_case : (v : Option StateValue) → whole_vector v ≡ vector_by (form_width (mapped form_of v)) (number_at v 0)
whole_case None = refl
whole_case (Some (One x)) = refl
whole_case (Some (Many xs)) = refl

pub whole_means : (names : Names StateValue) (r : Ref) → whole_vector (look names r) ≡ table_vector names (whole r)
whole_means names r = whole_case (look names r) ∙ ap (λ f. vector_by (form_width f) (number_at (look names r) 0)) (sym (look_form names r))

-- an element of an array
index_case : (v : Option StateValue) (w : Option ℕ) (n : ℕ) →
    element_at v (vector_by w n) ≡ vector_by (defined_width (form_element (mapped form_of v)) (same_width (form_place (mapped form_of v)) w)) (number_at v n)
index_case None w n = vector_none (number_at None n) (defined_none (same_width None w))
index_case (Some (One x)) w n = vector_none (number_at (Some (One x)) n) (defined_none (same_width None w))
index_case (Some (Many xs)) None n = vector_none (nth_number xs n) (ap (defined_width (Some (first_width xs))) (same_none (place_width (length xs))))
index_case (Some (Many xs)) (Some w) n = refl

pub index_means : (names : Names StateValue) (r : Ref) (e : Tree) (at : ℕ) → element_at (look names r) (table_vector names e) ≡ table_vector names (index r e at)
index_means names r e at =
    index_case (look names r) (wide names e) (numeral names e)
    ∙ ap (λ f. vector_by (defined_width (form_element f) (same_width (form_place f) (wide names e))) (number_at (look names r) (numeral names e))) (sym (look_form names r))

-- bits and slices
bit_case : (w p : Option ℕ) (n : ℕ) → bit_taken (vector_by w n) p ≡ vector_by (bit_width p w) (bit_at n (or_zero p))
bit_case None None n = refl
bit_case None (Some p) n = refl
bit_case (Some w) None n = refl
bit_case (Some w) (Some p) n = refl

slice_case : (w h l : Option ℕ) (n : ℕ) → slice_taken (vector_by w n) h l ≡ vector_by (slice_width h l w) (slice_of n (or_zero h) (or_zero l))
slice_case None None l n = refl
slice_case None (Some h) None n = refl
slice_case None (Some h) (Some l) n = refl
slice_case (Some w) None l n = refl
slice_case (Some w) (Some h) None n = refl
slice_case (Some w) (Some h) (Some l) n = refl

pub bit_means : (names : Names StateValue) (r : Ref) (place : Count) (at : ℕ) → bit_taken (table_vector names (whole r)) (fixed place) ≡ table_vector names (bit r place at)
bit_means names r place at = bit_case (wide names (whole r)) (fixed place) (numeral names (whole r))

pub slice_means : (names : Names StateValue) (r : Ref) (high low : Count) (at : ℕ) →
    slice_taken (table_vector names (whole r)) (fixed high) (fixed low) ≡ table_vector names (slice r high low at)
slice_means names r high low at = slice_case (wide names (whole r)) (fixed high) (fixed low) (numeral names (whole r))

-- operators
negated_case : (w : Option ℕ) (n : ℕ) → negated (vector_by w n) ≡ vector_by w (inverted (or_zero w) n)
negated_case None n = refl
negated_case (Some w) n = refl

left_none : (o : Op) (v : Option ℕ) → operator_width o None v ≡ None
left_none op.Eq None = refl
left_none op.Eq (Some v) = refl
left_none other None = refl
left_none other (Some v) = refl

right_none : (o : Op) (w : ℕ) → operator_width o (Some w) None ≡ None
right_none op.Eq w = refl
right_none other w = refl

both_case : (o : Op) (w v : Option ℕ) (n m : ℕ) → both o (vector_by w n) (vector_by v m) ≡ vector_by (operator_width o w v) (operate o (or_zero w) n m)
both_case o None v n m = vector_none (operate o 0 n m) (left_none o v)
both_case o (Some w) None n m = vector_none (operate o w n m) (right_none o w)
both_case o (Some w) (Some v) n m = refl

pub both_means : (names : Names StateValue) (o : Op) (a b : Tree) (at : ℕ) → both o (table_vector names a) (table_vector names b) ≡ table_vector names (binary o a b at)
both_means names o a b at = both_case o (wide names a) (wide names b) (numeral names a) (numeral names b)

chosen_case : (t w v : Option ℕ) (k n m : ℕ) →
    chosen (vector_by t k) (vector_by w n) (vector_by v m) ≡ vector_by (defined_width (same_width w v) (same_width (Some 1) t)) (cond (nat_eq k 1) n m)
chosen_case None w v k n m = refl
chosen_case (Some t) None v k n m = vector_none (cond (nat_eq k 1) n m) (defined_none _)
chosen_case (Some t) (Some w) None k n m = vector_none (cond (nat_eq k 1) n m) (defined_none _)
chosen_case (Some t) (Some w) (Some v) k n m = refl

-- concatenations
run_case : (w : Option ℕ) (n : ℕ) → whole_run (run_by w n) ≡ vector_by (checked_width w) n
run_case None n = refl
run_case (Some zero) n = refl
run_case (Some (suc w)) n = elim (cases_lt 128 (suc w)) [
  | inl large ↦ let t : is_width (suc w) ≡ false = grind (arith, nat_tests) in rw (large_run (suc w) n large, t) refl
  | inr small ↦ let t : is_width (suc w) ≡ true = grind (arith, nat_tests) in
      let z : nat_eq (suc w) 0 ≡ false = grind (arith, nat_tests) in
      rw (small_run (suc w) n small, t, z) refl
]

repeated_case : (w t : Option ℕ) (n : ℕ) → repeated_run (vector_by w n) t ≡ run_by (repeated_width w t) (repeated (or_zero t) (or_zero w) n)
repeated_case None t n = refl
repeated_case (Some w) None n = refl
repeated_case (Some w) (Some t) n = refl

nothing_behind : (x : Option Bits) → joined_run x None ≡ None
nothing_behind None = refl
nothing_behind (Some x) = refl

joined_case : (w v : Option ℕ) (n m : ℕ) → joined_run (run_by w n) (run_by v m) ≡ run_by (joined_width w v) (joined n (or_zero v) m)
joined_case None v n m = refl
joined_case (Some w) None n m = nothing_behind (run_by (Some w) n)
joined_case (Some w) (Some v) n m = runs_join w n v m

-- one part more
pub part_means : (names : Names StateValue) (e : Tree) (times : Count) (behind : Parts) →
    joined_run (repeated_run (table_vector names e) (fixed times)) (parts_run names behind) ≡ parts_run names (one_part e times behind)
part_means names e times behind = ap (λ x. joined_run x (parts_run names behind)) (repeated_case (wide names e) (fixed times) (numeral names e))
    ∙ joined_case (repeated_width (wide names e) (fixed times)) (total names behind) (repeated (or_zero (fixed times)) (or_zero (wide names e)) (numeral names e)) (bits names behind)

-- no bits before or behind some
first_case : (w : Option ℕ) (n : ℕ) → joined_run (Some (vector 0 0)) (run_by w n) ≡ run_by w n
first_case None n = refl
first_case (Some w) n =
    let e : 0 + w ≡ w = omega arith in
    let f : joined 0 w n ≡ n = omega arith in
    runs_join 0 0 w n ∙ ap (λ k. cut_vector k (joined 0 w n)) e ∙ ap (cut_vector w) f

pub before_parts : (names : Names StateValue) (parts : Parts) → joined_run (Some (vector 0 0)) (parts_run names parts) ≡ parts_run names parts
before_parts names parts = first_case (total names parts) (bits names parts)

pub behind_parts : (x : Option Bits) → IsRun x → joined_run x (Some (vector 0 0)) ≡ x
behind_parts None run = refl
behind_parts (Some x) run =
    let e : x.width + 0 ≡ x.width = omega arith in
    let f : joined x.value 0 0 ≡ x.value = omega arith in
    ap (λ k. cut_vector k (joined x.value 0 0)) e ∙ ap (cut_vector x.width) f ∙ small_run x.width x.value run.0

-- three runs
three : (x b y c z : ℕ) → joined (joined x b y) c z ≡ joined x (b + c) (joined y c z)
three x b y c z =
    let p : 2 ^ (b + c) ≡ 2 ^ b * 2 ^ c = pow-add 2 b c in
    let q : x * (2 ^ b * 2 ^ c) ≡ x * 2 ^ b * 2 ^ c = sym (mul_assoc x (2 ^ b) (2 ^ c)) in
    let r : (x * 2 ^ b + y) * 2 ^ c ≡ x * 2 ^ b * 2 ^ c + y * 2 ^ c = grind (arith) in
    let s : x * 2 ^ (b + c) ≡ x * 2 ^ b * 2 ^ c = ap (λ k. x * k) p ∙ q in
    omega arith

pub runs_of_three : (x y z : Option Bits) → joined_run (joined_run x y) z ≡ joined_run x (joined_run y z)
runs_of_three None y z = refl
runs_of_three (Some x) None z = refl
runs_of_three (Some x) (Some y) None = nothing_behind (joined_run (Some x) (Some y))
runs_of_three (Some x) (Some y) (Some z) = elim (cases_lt 128 (x.width + y.width)) [
  | inl large ↦ elim (cases_lt 128 (y.width + z.width)) [
    | inl wide ↦ rw (large_run (x.width + y.width) (joined x.value y.width y.value) large, large_run (y.width + z.width) (joined y.value z.width z.value) wide) refl
    | inr less ↦ rw (large_run (x.width + y.width) (joined x.value y.width y.value) large, small_run (y.width + z.width) (joined y.value z.width z.value) less)
        (sym (large_run (x.width + (y.width + z.width)) (joined x.value (y.width + z.width) (joined y.value z.width z.value)) (omega arith)))
  ]
  | inr small ↦ elim (cases_lt 128 (y.width + z.width)) [
    | inl wide ↦ rw (small_run (x.width + y.width) (joined x.value y.width y.value) small, large_run (y.width + z.width) (joined y.value z.width z.value) wide)
        (large_run (x.width + y.width + z.width) (joined (joined x.value y.width y.value) z.width z.value) (omega arith))
    | inr less ↦ rw (small_run (x.width + y.width) (joined x.value y.width y.value) small, small_run (y.width + z.width) (joined y.value z.width z.value) less)
        (let e : x.width + y.width + z.width ≡ x.width + (y.width + z.width) = omega arith in
        ap (λ k. cut_vector k (joined (joined x.value y.width y.value) z.width z.value)) e ∙ ap (cut_vector (x.width + (y.width + z.width))) (three x.value y.width y.value z.width z.value))
  ]
]

pub concat_means : (names : Names StateValue) (parts : Parts) (at : ℕ) → whole_run (parts_run names parts) ≡ table_vector names (concat parts at)
concat_means names parts at = run_case (total names parts) (bits names parts)
