-- Expressions of a module without faults have widths.
use Rattle.std.proofs.Common.{◌≡◌, ℕ, ◌+◌, ◌-◌, ◌*◌, ◌^◌, ◌≤◌, Bool, true, false, List, [], ◌++◌, Option, Some, None, refl, sym, ap, ap₂, ◌∙◌, subst, arith}
use Rattle.std.specs.Prelude.{nat_eq, nat_lt, not, ◌&&◌, ◌↔◌}
use Rattle.std.proofs.lemmas.Nat.{mul-le}
use Rattle.std.proofs.lemmas.Bool.{cond-false, and_parts, false≢true}
use Rattle.std.proofs.lemmas.Bool.Decides.{nat_tests}
use Rattle.lola_bits.specs.declared.op.Op.{Op}
use Rattle.lola_bits.specs.declared.op.Op.TheVariants as op
use Rattle.lola_bits.proofs.Tests.{chosen_yes, none_unless, none_where}
use Rattle.lola_bits.proofs.Lists.{both_none}
use Rattle.lola_tree.specs.declared.named.Count.{Count}
use Rattle.lola_tree.specs.declared.named.Count.TheVariants as count
use Rattle.lola_tree.specs.declared.named.Ref.{Ref}
use Rattle.lola_tree.specs.declared.named.Shape.TheVariants as shape
use Rattle.lola_tree.specs.Tree.{Tree, number, whole, bit, slice, index, concat, negation, binary, choice, Parts, no_part, one_part, ModuleTree}
use Rattle.lola_tree.specs.Names.{Entry, port, constant, local, Names, names_of, count_number, constant_number, ref_name}
use Rattle.lola_tree.specs.Value.{or_zero}
use Rattle.lola_tree.specs.Width.{is_width, scope_of, is_number, written_width, number_width, checked_width, checked_place, place_width, vector_width, element_width, elements_width, entry_width, bit_width, slice_width, same_width, defined_width, operator_width, repeated_width, joined_width, width, total_width}
use Rattle.lola_width.specs.declared.uses.Use.TheVariants as use_
use Rattle.lola_width.specs.NameFaults.{is_constant, use_faults, may_count, shape_faults, array_faults, type_faults, value_faults, expr_faults, part_faults, count_faults}
use Rattle.lola_width.specs.WidthFaults.{count_at, too_wide, shape_widths, differ, beyond, turned_round, never, wide, operator_faults, expr_widths, part_widths}
use Rattle.lola_regular.specs.Written.{IsBetween, IsWrittenTree, AreWrittenParts}
use Rattle.lola_values.proofs.Widths.{equal_is, checked_is, number_in, same_self, width_checked}

-- a width of one bit at least
abbrev pub Known : Option ℕ → Type 0
Known o = (w : ℕ) × (1 ≤ w) × (o ≡ Some w)

pub number_known : (n : ℕ) (written : Option ℕ) → is_number n written ≡ true → Known (number_width n written)
number_known n written is =
    let e = chosen_yes (is_number n written) (written_width written) is in
    (written_width written, (number_in n written (written_width written) e).1.positive, e)

-- a count is a number
constant_has : (e : Entry) → is_constant e ≡ true → (n : ℕ) × (constant_number (Some e) ≡ Some n)
constant_has (port p) is = absurd (cc)
constant_has (constant c) is = (c.value, refl)
constant_has (local l) is = absurd (cc)

named_count : (o : Option Entry) (at : ℕ) (name : List ℕ) → use_faults use_.Count at name o ≡ [] → (n : ℕ) × (constant_number o ≡ Some n)
named_count None at name none = absurd (cc)
named_count (Some e) at name none = constant_has e (none_unless (is_constant e) _ none)

count_known : (names : Names) (c : Count) → count_faults names c ≡ [] → (n : ℕ) × (count_number names c ≡ Some n)
count_known names (count.Fixed value at) none = (value, refl)
count_known names (count.Const name) none = named_count (names name.name) name.at name.name none

-- types have widths
wide_known : (at : ℕ) (o : Option ℕ) (n : ℕ) → o ≡ Some n → too_wide at o ≡ [] → Known (checked_width o)
wide_known at o n e none =
    let is = none_unless (is_width n) _ (subst (λ (x : Option ℕ). too_wide at x ≡ []) e none) in
    let c = ap checked_width e ∙ chosen_yes (is_width n) n is in
    (n, (checked_is o n c).1, c)

pub vector_known : (names : Names) (reg : Bool) (at : ℕ) (name : List ℕ) (width : Count) → type_faults names reg at name (shape.Vector width) ≡ [] → shape_widths names (shape.Vector width) ≡ [] → Known (vector_width names (Some (shape.Vector width)))
vector_known names reg at name width none sized =
    let split = both_none (shape_faults names (shape.Vector width)) (array_faults names reg at name (shape.Vector width)) none in
    let n = count_known names width split.0 in
    wide_known (count_at width) (count_number names width) n.0 n.1 sized

place_there : (n : ℕ) (o : Option ℕ) → may_count (Some n) o ≡ true → (k : ℕ) × (o ≡ Some k)
place_there n None is = absurd (false≢true is)
place_there n (Some k) is = (k, refl)

-- how many elements an array has
abbrev pub NumbersAll : Type 0
NumbersAll = (elements bits : ℕ) → (place_width elements ≡ Some bits) ↔ ((1 ≤ bits) × (bits ≤ 10) × (elements ≡ 2 ^ bits))

-- an array has elements of some width, and as many as its places tell apart
pub record ArrayKnown (names : Names) (n width : Count) : Type 0 where
  pub element : Known (element_width names (Some (shape.Array n width)))
  pub bits : ℕ
  pub place : elements_width names (Some (shape.Array n width)) ≡ Some bits
  pub low : 1 ≤ bits
  pub elements_are : or_zero (count_number names n) ≡ 2 ^ bits

pub array_known : NumbersAll → (names : Names) (reg : Bool) (at : ℕ) (name : List ℕ) (n width : Count) → type_faults names reg at name (shape.Array n width) ≡ [] → shape_widths names (shape.Array n width) ≡ [] → ArrayKnown names n width
array_known numbers names reg at name n width none sized =
    let split = both_none (shape_faults names (shape.Array n width)) (array_faults names reg at name (shape.Array n width)) none in
    let counts = both_none (count_faults names n) (count_faults names width) split.0 in
    let c = count_known names n counts.0 in
    let w = count_known names width counts.1 in
    let may = (and_parts reg (may_count (count_number names n) (checked_place (count_number names n))) (none_unless (reg && may_count (count_number names n) (checked_place (count_number names n))) _ split.1)).1 in
    let k = place_there c.0 (checked_place (count_number names n)) (subst (λ (o : Option ℕ). may_count o (checked_place (count_number names n)) ≡ true) c.1 may) in
    let e : place_width c.0 ≡ Some k.0 = sym (ap checked_place c.1) ∙ k.1 in
    let is = (numbers c.0 k.0).0 e in
    record {
      element = wide_known (count_at width) (count_number names width) w.0 w.1 sized;
      bits = k.0;
      place = k.1;
      low = is.0;
      elements_are = ap or_zero c.1 ∙ is.2;
    }

bit_known : (at : ℕ) (o p : Option ℕ) (n w : ℕ) → o ≡ Some n → p ≡ Some w → beyond at o p ≡ [] → Known (bit_width o p)
bit_known at None p n w e f none = absurd (cc)
bit_known at (Some k) None n w e f none = absurd (cc)
bit_known at (Some k) (Some v) n w e f none = (1, omega arith, chosen_yes (nat_lt k v) 1 (none_unless (nat_lt k v) _ none))

slice_known : (at below : ℕ) (o p q : Option ℕ) (h l w : ℕ) → o ≡ Some h → p ≡ Some l → q ≡ Some w → beyond at o q ≡ [] → turned_round below o p ≡ [] → Known (slice_width o p q)
slice_known at below None p q h l w e f g none turned = absurd (cc)
slice_known at below (Some a) None q h l w e f g none turned = absurd (cc)
slice_known at below (Some a) (Some b) None h l w e f g none turned = absurd (cc)
slice_known at below (Some a) (Some b) (Some c) h l w e f g none turned =
    (a - b + 1, omega arith, chosen_yes (nat_lt a c && not (nat_lt a b)) (a - b + 1) (both (nat_lt a c) (nat_lt a b) (none_unless (nat_lt a c) _ none) (none_where (nat_lt a b) _ turned)))
  where
    both : (x y : Bool) → x ≡ true → y ≡ false → (x && not y) ≡ true
    both x y p q = rw (p, q) refl

pub same_known : (at : ℕ) (o p : Option ℕ) → Known o → Known p → differ at o p ≡ [] → (w : ℕ) × (1 ≤ w) × (o ≡ Some w) × (p ≡ Some w)
same_known at o p a b none =
    let d : differ at (Some a.0) (Some b.0) ≡ [] = subst (λ (x : Option ℕ). differ at x (Some b.0) ≡ []) a.2 (subst (λ (x : Option ℕ). differ at o x ≡ []) b.2 none) in
    let same = equal_is a.0 b.0 (none_unless (nat_eq a.0 b.0) _ d) in
    (a.0, a.1, a.2, b.2 ∙ ap (λ (n : ℕ). Some n) (sym same))

defined_known : (o p : Option ℕ) (w v : ℕ) → 1 ≤ w → o ≡ Some w → p ≡ Some v → Known (defined_width o p)
defined_known o p w v low e f = (w, low, ap₂ defined_width e f)

relation_known : (at : ℕ) (a b : Option ℕ) → Known a → Known b → differ at a b ≡ [] → Known (defined_width (Some 1) (same_width a b))
relation_known at a b p q none =
    let s = same_known at a b p q none in
    (1, omega arith, ap (defined_width (Some 1)) (ap₂ same_width s.2 s.3 ∙ same_self s.0))

sum_known : (at : ℕ) (a b : Option ℕ) → Known a → Known b → differ at a b ≡ [] → Known (same_width a b)
sum_known at a b p q none =
    let s = same_known at a b p q none in
    (s.0, s.1, ap₂ same_width s.2 s.3 ∙ same_self s.0)

operator_known : (o : Op) (at : ℕ) (a b : Option ℕ) → IsBetween o → Known a → Known b → operator_faults o at a b ≡ [] → Known (operator_width o a b)
operator_known op.Not at a b is p q none = absurd is
operator_known op.Mux at a b is p q none = absurd is
operator_known op.Eq at a b is p q none = relation_known at a b p q none
operator_known op.Ne at a b is p q none = relation_known at a b p q none
operator_known op.Lt at a b is p q none = relation_known at a b p q none
operator_known op.Le at a b is p q none = relation_known at a b p q none
operator_known op.Gt at a b is p q none = relation_known at a b p q none
operator_known op.Ge at a b is p q none = relation_known at a b p q none
operator_known op.Shl at a b is p q none = defined_known a b p.0 q.0 p.1 p.2 q.2
operator_known op.Shr at a b is p q none = defined_known a b p.0 q.0 p.1 p.2 q.2
operator_known op.Asr at a b is p q none = defined_known a b p.0 q.0 p.1 p.2 q.2
operator_known op.Ror at a b is p q none = defined_known a b p.0 q.0 p.1 p.2 q.2
operator_known op.And at a b is p q none = sum_known at a b p q none
operator_known op.Or at a b is p q none = sum_known at a b p q none
operator_known op.Xor at a b is p q none = sum_known at a b p q none
operator_known op.Add at a b is p q none = sum_known at a b p q none
operator_known op.Sub at a b is p q none = sum_known at a b p q none

choice_known : (at : ℕ) (t a b : Option ℕ) → Known t → Known a → Known b → differ at a b ≡ [] → differ at (Some 1) t ≡ [] →
    Known (defined_width (same_width a b) (same_width (Some 1) t))
choice_known at t a b p q r one two =
    let s = same_known at a b q r one in
    let u = same_known at (Some 1) t (1, omega arith, refl) p two in
    (s.0, s.1, ap₂ defined_width (ap₂ same_width s.2 s.3 ∙ same_self s.0) (ap₂ same_width u.2 u.3 ∙ same_self u.0))

not_zero : (n : ℕ) → nat_eq n 0 ≡ false → 1 ≤ n
not_zero n e = grind (arith, nat_tests)

at_most : (n : ℕ) → nat_lt 128 n ≡ false → n ≤ 128
at_most n e = grind (arith, nat_tests)

times_known : (n w : ℕ) → 1 ≤ w → nat_eq n 0 ≡ false → Known (repeated_width (Some w) (Some n))
times_known n w low other = (n * w, mul-le 1 1 n w (not_zero n other) low, cond-false (nat_eq n 0) None (Some (n * w)) other)

repeated_known : (at : ℕ) (o p : Option ℕ) (n : ℕ) → Known o → p ≡ Some n → never at p ≡ [] → Known (repeated_width o p)
repeated_known at o p n a e none =
    let other = none_where (nat_eq n 0) _ (subst (λ (x : Option ℕ). never at x ≡ []) e none) in
    let t = times_known n a.0 a.1 other in
    (t.0, t.1, ap₂ repeated_width a.2 e ∙ t.2)

joined_known : (o p : Option ℕ) (v : ℕ) → Known o → p ≡ Some v → Known (joined_width o p)
joined_known o p v a e = let low = a.1 in (a.0 + v, omega arith, ap₂ joined_width a.2 e)

fitting_known : (at : ℕ) (o : Option ℕ) → Known o → wide at o ≡ [] → Known (checked_width o)
fitting_known at o a none =
    let high = at_most a.0 (none_where (nat_lt 128 a.0) _ (subst (λ (x : Option ℕ). wide at x ≡ []) a.2 none)) in
    (a.0, a.1, ap checked_width a.2 ∙ width_checked a.0 a.1 high)

-- one part more
part_step : (names : Names) (times : Count) (o p : Option ℕ) (v : ℕ) → count_faults names times ≡ [] → never (count_at times) (count_number names times) ≡ [] →
    Known o → p ≡ Some v → Known (joined_width (repeated_width o (count_number names times)) p)
part_step names times o p v counted none a e =
    let k = count_known names times counted in
    joined_known (repeated_width o (count_number names times)) p v (repeated_known (count_at times) o (count_number names times) k.0 a k.1 none) e

-- what the names of a module are
module _ (m : ModuleTree) (clock : Option (List ℕ))
    (named : (r : Ref) → value_faults (names_of m) clock r ≡ [] → Known (entry_width (names_of m) (names_of m (ref_name r))))
    (indexed : (r : Ref) → use_faults use_.Indexed r.at (ref_name r) (names_of m (ref_name r)) ≡ [] → Known ((scope_of m).element r) × Known ((scope_of m).place r)) where
  mutual
    pub value_known : (e : Tree) → IsWrittenTree e → expr_faults (names_of m) clock e ≡ [] → expr_widths (scope_of m) e ≡ [] → Known (width (scope_of m) e)
    value_known (number n written at) good none sized = number_known n written (none_unless (is_number n written) _ sized)
    value_known (whole of) good none sized = named of none
    value_known (bit of place at) good none sized =
        let split = both_none (value_faults (names_of m) clock of) (count_faults (names_of m) place) none in
        let w = named of split.0 in
        let n = count_known (names_of m) place split.1 in
        bit_known (count_at place) (count_number (names_of m) place) (entry_width (names_of m) (names_of m (ref_name of))) n.0 w.0 n.1 w.2 sized
    value_known (slice of high low at) good none sized =
        let split = both_none (value_faults (names_of m) clock of) (count_faults (names_of m) high ++ count_faults (names_of m) low) none in
        let w = named of split.0 in
        let counts = both_none (count_faults (names_of m) high) (count_faults (names_of m) low) split.1 in
        let h = count_known (names_of m) high counts.0 in
        let l = count_known (names_of m) low counts.1 in
        let two = both_none (beyond (count_at high) (count_number (names_of m) high) (entry_width (names_of m) (names_of m (ref_name of)))) (turned_round (count_at low) (count_number (names_of m) high) (count_number (names_of m) low)) sized in
        slice_known (count_at high) (count_at low) (count_number (names_of m) high) (count_number (names_of m) low) (entry_width (names_of m) (names_of m (ref_name of)))
        h.0 l.0 w.0 h.1 l.1 w.2 two.0 two.1
    value_known (index of place at) good none sized =
        let n = both_none (use_faults use_.Indexed of.at (ref_name of) (names_of m (ref_name of))) (expr_faults (names_of m) clock place) none in
        let z = both_none (expr_widths (scope_of m) place) (differ at ((scope_of m).place of) (width (scope_of m) place)) sized in
        let k = indexed of n.0 in
        let s = same_known at ((scope_of m).place of) (width (scope_of m) place) k.1 (value_known place good.1 n.1 z.0) z.1 in
        (k.0.0, k.0.1, ap₂ defined_width k.0.2 (ap₂ same_width s.2 s.3 ∙ same_self s.0))
    value_known (concat no_part at) good none sized = absurd good
    value_known (concat (one_part e times behind) at) good none sized =
        let two = both_none (part_widths (scope_of m) (one_part e times behind)) (wide at (total_width (scope_of m) (one_part e times behind))) sized in
        let n = both_none (expr_faults (names_of m) clock e) (count_faults (names_of m) times ++ part_faults (names_of m) clock behind) none in
        let more = both_none (count_faults (names_of m) times) (part_faults (names_of m) clock behind) n.1 in
        let s = both_none (expr_widths (scope_of m) e) (never (count_at times) (count_number (names_of m) times) ++ part_widths (scope_of m) behind) two.0 in
        let t = both_none (never (count_at times) (count_number (names_of m) times)) (part_widths (scope_of m) behind) s.1 in
        let rest = rest_known behind good.1 more.1 t.1 in
        fitting_known at (total_width (scope_of m) (one_part e times behind))
        (part_step (names_of m) times (width (scope_of m) e) (total_width (scope_of m) behind) rest.0 more.0 t.0 (value_known e good.0 n.0 s.0) rest.1) two.1
    value_known (negation e at) good none sized = value_known e good none sized
    value_known (binary o a b at) good none sized =
        let n = both_none (expr_faults (names_of m) clock a) (expr_faults (names_of m) clock b) none in
        let s = both_none (expr_widths (scope_of m) a) (expr_widths (scope_of m) b ++ operator_faults o at (width (scope_of m) a) (width (scope_of m) b)) sized in
        let t = both_none (expr_widths (scope_of m) b) (operator_faults o at (width (scope_of m) a) (width (scope_of m) b)) s.1 in
        operator_known o at (width (scope_of m) a) (width (scope_of m) b) good.0 (value_known a good.1 n.0 s.0) (value_known b good.2 n.1 t.0) t.1
    value_known (choice test first second at) good none sized =
        let n = both_none (expr_faults (names_of m) clock test) (expr_faults (names_of m) clock first ++ expr_faults (names_of m) clock second) none in
        let more = both_none (expr_faults (names_of m) clock first) (expr_faults (names_of m) clock second) n.1 in
        let s = both_none (expr_widths (scope_of m) test) _ sized in
        let t = both_none (expr_widths (scope_of m) first) _ s.1 in
        let u = both_none (expr_widths (scope_of m) second) _ t.1 in
        let d = both_none (differ at (width (scope_of m) first) (width (scope_of m) second)) _ u.1 in
        choice_known at (width (scope_of m) test) (width (scope_of m) first) (width (scope_of m) second)
        (value_known test good.0 n.0 s.0) (value_known first good.1 more.0 t.0) (value_known second good.2 more.1 u.0) d.0 d.1

    -- parts together have a width, which may be too large
    rest_known : (ps : Parts) → AreWrittenParts ps → part_faults (names_of m) clock ps ≡ [] → part_widths (scope_of m) ps ≡ [] → (v : ℕ) × (total_width (scope_of m) ps ≡ Some v)
    rest_known no_part good none sized = (0, refl)
    rest_known (one_part e times behind) good none sized =
        let n = both_none (expr_faults (names_of m) clock e) (count_faults (names_of m) times ++ part_faults (names_of m) clock behind) none in
        let more = both_none (count_faults (names_of m) times) (part_faults (names_of m) clock behind) n.1 in
        let s = both_none (expr_widths (scope_of m) e) (never (count_at times) (count_number (names_of m) times) ++ part_widths (scope_of m) behind) sized in
        let t = both_none (never (count_at times) (count_number (names_of m) times)) (part_widths (scope_of m) behind) s.1 in
        let rest = rest_known behind good.1 more.1 t.1 in
        let k = part_step (names_of m) times (width (scope_of m) e) (total_width (scope_of m) behind) rest.0 more.0 t.0 (value_known e good.0 n.0 s.0) rest.1 in
        (k.0, k.2)
