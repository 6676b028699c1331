-- The expressions of a well sized module have widths.
use Rattle.std.proofs.Common.{◌≡◌, ℕ, ◌+◌, ◌-◌, ◌*◌, ◌≤◌, Bool, true, false, List, [], map, Option, Some, None, refl, sym, ap, ap₂, ◌∙◌, subst, inl, inr, arith}
use Rattle.std.specs.Prelude.{nat_eq, nat_lt, not, ◌&&◌}
use Rattle.std.specs.List.{AllByRecursion}
use Rattle.std.proofs.lemmas.Nat.{mul-le}
use Rattle.std.proofs.lemmas.Bool.{cond-false}
use Rattle.std.proofs.lemmas.Bool.Decides.{nat_tests}
use Rattle.lola_bits.specs.declared.op.Op.{Op}
use Rattle.lola_bits.specs.declared.op.Op.TheVariants as op
use Rattle.lola_bits.specs.Lists.{AreDistinct}
use Rattle.lola_bits.proofs.All.{of_all}
use Rattle.lola_bits.proofs.Tests.{chosen_yes, none_unless, none_where}
use Rattle.lola_bits.proofs.Lists.{both_none}
use Rattle.lola_tree.specs.declared.named.Count.{Count}
use Rattle.lola_tree.specs.declared.named.Ref.{Ref}
use Rattle.lola_tree.specs.declared.named.Shape.{Shape}
use Rattle.lola_tree.specs.declared.named.Shape.TheVariants as shape
use Rattle.lola_tree.specs.declared.module.Port.{Port}
use Rattle.lola_tree.specs.declared.module.LocalKind.{LocalKind}
use Rattle.lola_tree.specs.declared.module.LocalKind.TheVariants.{Reg, Var, Inst}
use Rattle.lola_tree.specs.declared.module.Local.{Local}
use Rattle.lola_tree.specs.Tree.{Tree, number, whole, bit, slice, index, concat, negation, binary, choice, Parts, no_part, one_part, ModuleTree}
use Rattle.lola_tree.specs.Names.{entry_name, entries, Names, names_of, first_name, count_number, kind_shape, ref_name}
use Rattle.lola_tree.specs.Width.{scope_of, is_number, written_width, number_width, checked_width, vector_width, entry_width, bit_width, slice_width, same_width, defined_width, operator_width, repeated_width, joined_width, width, total_width}
use Rattle.lola_width.specs.NameFaults.{value_faults, expr_faults, part_faults, count_faults}
use Rattle.lola_width.specs.WidthFaults.{count_at, differ, beyond, turned_round, never, wide, operator_faults, expr_widths, part_widths}
use Rattle.lola_elab.specs.Small.{wide_in, IsSmallConst, IsSmallPort, IsSmallKind, IsLeaf, IsBuilt, AreBuilt}
use Rattle.lola_elab.specs.Built.{IsBetween, IsWritten, AreWritten}
use Rattle.lola_elab.proofs.Widths.{equal_is, checked_is, number_in, same_self, width_checked}
use Rattle.lola_elab.proofs.Entries.{port_named, const_named, local_named}
use Rattle.lola_elab.proofs.SizedNames.{count_known}

-- a width of one bit at least
abbrev pub Known : Option ℕ → Type 0
Known o = (w : ℕ) × (1 ≤ w) × (o ≡ Some w)

vector_positive : (names : Names) (type : Shape) (w : ℕ) → vector_width names (Some type) ≡ Some w → 1 ≤ w
vector_positive names (shape.Vector width) w e = (checked_is (count_number names width) w e).1
vector_positive names (shape.Array count width) w e = absurd (cc)

number_known : (n : ℕ) (written : Option ℕ) → is_number n written ≡ true → Known (number_width n written)
number_known n written is =
    let e = chosen_yes (is_number n written) (written_width written) is in
    (written_width written, (number_in n written (written_width written) e).1.positive, e)

-- what is declared in a module of vectors
pub record AreVectors (m : ModuleTree) : Type 0 where
  pub distinct : AreDistinct (map entry_name (entries m))
  pub constants : AllByRecursion IsSmallConst m.consts
  pub ports : AllByRecursion (IsSmallPort (wide_in m)) m.ports
  pub registers : AllByRecursion (λ (l : Local). IsSmallKind (wide_in m) l.kind) m.locals

pub register_wide : (m : ModuleTree) (l : Local) → IsSmallKind (wide_in m) l.kind → Known (vector_width (names_of m) (kind_shape l.kind))
register_wide m l = go l.kind where
  go : (k : LocalKind) → IsSmallKind (wide_in m) k → Known (vector_width (names_of m) (kind_shape k))
  go (Reg clock type) v = (v.width, vector_positive (names_of m) type v.width v.is, v.is)
  go (Var type) v = absurd v
  go (Inst of) v = absurd v

pub port_wide : (m : ModuleTree) (p : Port) → IsSmallPort (wide_in m) p → Known (vector_width (names_of m) (Some p.shape))
port_wide m p v = (v.1.width, vector_positive (names_of m) p.shape v.1.width v.1.is, v.1.is)

leaf_known : (m : ModuleTree) → AreVectors m → (r : Ref) → IsLeaf m r → Known (entry_width (names_of m) (names_of m (ref_name r)))
leaf_known m are r leaf =
    let name = leaf.1.0 in
    let called : ref_name r ≡ name = ap first_name leaf.1.1 in
    elim leaf.1.2 [
      | inl (inl input) ↦
          let i = input.1 in
          let w = port_wide m i.port (of_all (IsSmallPort (wide_in m)) i.port m.ports are.ports i.declared) in
          (w.0, w.1, ap (λ (n : List ℕ). entry_width (names_of m) (names_of m n)) (called ∙ i.named) ∙ ap (entry_width (names_of m)) (port_named m i.port are.distinct i.declared) ∙ w.2)
      | inl (inr register) ↦
          let g = register.2 in
          let w = register_wide m g.local (of_all (λ (l : Local). IsSmallKind (wide_in m) l.kind) g.local m.locals are.registers g.declared) in
          (w.0, w.1, ap (λ (n : List ℕ). entry_width (names_of m) (names_of m n)) (called ∙ g.named) ∙ ap (entry_width (names_of m)) (local_named m g.local are.distinct g.declared) ∙ w.2)
      | inr const ↦
          let c = const.0 in
          let v = of_all IsSmallConst c m.consts are.constants const.1 in (
            v.width,
            (number_in c.value c.width v.width v.is).1.positive,
            ap (λ (n : List ℕ). entry_width (names_of m) (names_of m n)) (called ∙ const.2) ∙ ap (entry_width (names_of m)) (const_named m c are.distinct const.1) ∙ v.is,
          )
    ]

bit_known : (at : ℕ) (o p : Option ℕ) (n w : ℕ) → o ≡ Some n → p ≡ Some w → beyond at o p ≡ [] → Known (bit_width o p)
bit_known at None p n w e f none = absurd (cc)
bit_known at (Some k) None n w e f none = absurd (cc)
bit_known at (Some k) (Some v) n w e f none = (1, omega arith, chosen_yes (nat_lt k v) 1 (none_unless (nat_lt k v) _ none))

slice_known : (at below : ℕ) (o p q : Option ℕ) (h l w : ℕ) → o ≡ Some h → p ≡ Some l → q ≡ Some w → beyond at o q ≡ [] → turned_round below o p ≡ [] → Known (slice_width o p q)
slice_known at below None p q h l w e f g none turned = absurd (cc)
slice_known at below (Some a) None q h l w e f g none turned = absurd (cc)
slice_known at below (Some a) (Some b) None h l w e f g none turned = absurd (cc)
slice_known at below (Some a) (Some b) (Some c) h l w e f g none turned =
    (a - b + 1, omega arith, chosen_yes (nat_lt a c && not (nat_lt a b)) (a - b + 1) (both (nat_lt a c) (nat_lt a b) (none_unless (nat_lt a c) _ none) (none_where (nat_lt a b) _ turned)))
  where
    both : (x y : Bool) → x ≡ true → y ≡ false → (x && not y) ≡ true
    both x y p q = rw (p, q) refl

pub same_known : (at : ℕ) (o p : Option ℕ) → Known o → Known p → differ at o p ≡ [] → (w : ℕ) × (1 ≤ w) × (o ≡ Some w) × (p ≡ Some w)
same_known at o p a b none =
    let d : differ at (Some a.0) (Some b.0) ≡ [] = subst (λ (x : Option ℕ). differ at x (Some b.0) ≡ []) a.2 (subst (λ (x : Option ℕ). differ at o x ≡ []) b.2 none) in
    let same = equal_is a.0 b.0 (none_unless (nat_eq a.0 b.0) _ d) in
    (a.0, a.1, a.2, b.2 ∙ ap (λ (n : ℕ). Some n) (sym same))

defined_known : (o p : Option ℕ) (w v : ℕ) → 1 ≤ w → o ≡ Some w → p ≡ Some v → Known (defined_width o p)
defined_known o p w v low e f = (w, low, ap₂ defined_width e f)

relation_known : (at : ℕ) (a b : Option ℕ) → Known a → Known b → differ at a b ≡ [] → Known (defined_width (Some 1) (same_width a b))
relation_known at a b p q none =
    let s = same_known at a b p q none in
    (1, omega arith, ap (defined_width (Some 1)) (ap₂ same_width s.2 s.3 ∙ same_self s.0))

sum_known : (at : ℕ) (a b : Option ℕ) → Known a → Known b → differ at a b ≡ [] → Known (same_width a b)
sum_known at a b p q none =
    let s = same_known at a b p q none in
    (s.0, s.1, ap₂ same_width s.2 s.3 ∙ same_self s.0)

operator_known : (o : Op) (at : ℕ) (a b : Option ℕ) → IsBetween o → Known a → Known b → operator_faults o at a b ≡ [] → Known (operator_width o a b)
operator_known op.Not at a b is p q none = absurd is
operator_known op.Mux at a b is p q none = absurd is
operator_known op.Eq at a b is p q none = relation_known at a b p q none
operator_known op.Ne at a b is p q none = relation_known at a b p q none
operator_known op.Lt at a b is p q none = relation_known at a b p q none
operator_known op.Le at a b is p q none = relation_known at a b p q none
operator_known op.Gt at a b is p q none = relation_known at a b p q none
operator_known op.Ge at a b is p q none = relation_known at a b p q none
operator_known op.Shl at a b is p q none = defined_known a b p.0 q.0 p.1 p.2 q.2
operator_known op.Shr at a b is p q none = defined_known a b p.0 q.0 p.1 p.2 q.2
operator_known op.Asr at a b is p q none = defined_known a b p.0 q.0 p.1 p.2 q.2
operator_known op.Ror at a b is p q none = defined_known a b p.0 q.0 p.1 p.2 q.2
operator_known op.And at a b is p q none = sum_known at a b p q none
operator_known op.Or at a b is p q none = sum_known at a b p q none
operator_known op.Xor at a b is p q none = sum_known at a b p q none
operator_known op.Add at a b is p q none = sum_known at a b p q none
operator_known op.Sub at a b is p q none = sum_known at a b p q none

choice_known : (at : ℕ) (t a b : Option ℕ) → Known t → Known a → Known b → differ at a b ≡ [] → differ at (Some 1) t ≡ [] →
    Known (defined_width (same_width a b) (same_width (Some 1) t))
choice_known at t a b p q r one two =
    let s = same_known at a b q r one in
    let u = same_known at (Some 1) t (1, omega arith, refl) p two in
    (s.0, s.1, ap₂ defined_width (ap₂ same_width s.2 s.3 ∙ same_self s.0) (ap₂ same_width u.2 u.3 ∙ same_self u.0))

not_zero : (n : ℕ) → nat_eq n 0 ≡ false → 1 ≤ n
not_zero n e = grind (arith, nat_tests)

at_most : (n : ℕ) → nat_lt 128 n ≡ false → n ≤ 128
at_most n e = grind (arith, nat_tests)

times_known : (n w : ℕ) → 1 ≤ w → nat_eq n 0 ≡ false → Known (repeated_width (Some w) (Some n))
times_known n w low other = (n * w, mul-le 1 1 n w (not_zero n other) low, cond-false (nat_eq n 0) None (Some (n * w)) other)

repeated_known : (at : ℕ) (o p : Option ℕ) (n : ℕ) → Known o → p ≡ Some n → never at p ≡ [] → Known (repeated_width o p)
repeated_known at o p n a e none =
    let other = none_where (nat_eq n 0) _ (subst (λ (x : Option ℕ). never at x ≡ []) e none) in
    let t = times_known n a.0 a.1 other in
    (t.0, t.1, ap₂ repeated_width a.2 e ∙ t.2)

joined_known : (o p : Option ℕ) (v : ℕ) → Known o → p ≡ Some v → Known (joined_width o p)
joined_known o p v a e = let low = a.1 in (a.0 + v, omega arith, ap₂ joined_width a.2 e)

fitting_known : (at : ℕ) (o : Option ℕ) → Known o → wide at o ≡ [] → Known (checked_width o)
fitting_known at o a none =
    let high = at_most a.0 (none_where (nat_lt 128 a.0) _ (subst (λ (x : Option ℕ). wide at x ≡ []) a.2 none)) in
    (a.0, a.1, ap checked_width a.2 ∙ width_checked a.0 a.1 high)

-- one part more
part_step : (names : Names) (times : Count) (o p : Option ℕ) (v : ℕ) → count_faults names times ≡ [] → never (count_at times) (count_number names times) ≡ [] →
    Known o → p ≡ Some v → Known (joined_width (repeated_width o (count_number names times)) p)
part_step names times o p v counted none a e =
    let k = count_known names times counted in
    joined_known (repeated_width o (count_number names times)) p v (repeated_known (count_at times) o (count_number names times) k.0 a k.1 none) e

module _ (m : ModuleTree) (clock : Option (List ℕ)) (are : AreVectors m) where
  mutual
    pub value_known : (e : Tree) → IsWritten e → IsBuilt (IsLeaf m) e → expr_faults (names_of m) clock e ≡ [] → expr_widths (scope_of m) e ≡ [] → Known (width (scope_of m) e)
    value_known (number n written at) good built named sized = number_known n written (none_unless (is_number n written) _ sized)
    value_known (whole of) good built named sized = leaf_known m are of built
    value_known (bit of place at) good built named sized =
        let w = leaf_known m are of built in
        let n = count_known (names_of m) place (both_none (value_faults (names_of m) clock of) (count_faults (names_of m) place) named).1 in
        bit_known (count_at place) (count_number (names_of m) place) (entry_width (names_of m) (names_of m (ref_name of))) n.0 w.0 n.1 w.2 sized
    value_known (slice of high low at) good built named sized =
        let w = leaf_known m are of built in
        let counts = both_none (count_faults (names_of m) high) (count_faults (names_of m) low) (both_none (value_faults (names_of m) clock of) _ named).1 in
        let h = count_known (names_of m) high counts.0 in
        let l = count_known (names_of m) low counts.1 in
        let two = both_none (beyond (count_at high) (count_number (names_of m) high) (entry_width (names_of m) (names_of m (ref_name of)))) _ sized in
        slice_known (count_at high) (count_at low) (count_number (names_of m) high) (count_number (names_of m) low) (entry_width (names_of m) (names_of m (ref_name of)))
        h.0 l.0 w.0 h.1 l.1 w.2 two.0 two.1
    value_known (index of place at) good built named sized = absurd built
    value_known (concat no_part at) good built named sized = absurd good
    value_known (concat (one_part e times behind) at) good built named sized =
        let two = both_none (part_widths (scope_of m) (one_part e times behind)) (wide at (total_width (scope_of m) (one_part e times behind))) sized in
        let n = both_none (expr_faults (names_of m) clock e) _ named in
        let n' = both_none (count_faults (names_of m) times) _ n.1 in
        let s = both_none (expr_widths (scope_of m) e) _ two.0 in
        let t = both_none (never (count_at times) (count_number (names_of m) times)) _ s.1 in
        let rest = rest_known behind good.1 built.1 n'.1 t.1 in
        fitting_known at (total_width (scope_of m) (one_part e times behind))
        (part_step (names_of m) times (width (scope_of m) e) (total_width (scope_of m) behind) rest.0 n'.0 t.0 (value_known e good.0 built.0 n.0 s.0) rest.1) two.1
    value_known (negation e at) good built named sized = value_known e good built named sized
    value_known (binary o a b at) good built named sized =
        let n = both_none (expr_faults (names_of m) clock a) (expr_faults (names_of m) clock b) named in
        let s = both_none (expr_widths (scope_of m) a) _ sized in
        let t = both_none (expr_widths (scope_of m) b) _ s.1 in
        operator_known o at (width (scope_of m) a) (width (scope_of m) b) good.0 (value_known a good.1 built.0 n.0 s.0) (value_known b good.2 built.1 n.1 t.0) t.1
    value_known (choice test first second at) good built named sized =
        let n = both_none (expr_faults (names_of m) clock test) _ named in
        let n' = both_none (expr_faults (names_of m) clock first) _ n.1 in
        let s = both_none (expr_widths (scope_of m) test) _ sized in
        let t = both_none (expr_widths (scope_of m) first) _ s.1 in
        let u = both_none (expr_widths (scope_of m) second) _ t.1 in
        let d = both_none (differ at (width (scope_of m) first) (width (scope_of m) second)) _ u.1 in
        choice_known at (width (scope_of m) test) (width (scope_of m) first) (width (scope_of m) second)
        (value_known test good.0 built.0 n.0 s.0) (value_known first good.1 built.1 n'.0 t.0) (value_known second good.2 built.2 n'.1 u.0) d.0 d.1

    -- parts together have a width, which may be too large
    rest_known : (ps : Parts) → AreWritten ps → AreBuilt (IsLeaf m) ps → part_faults (names_of m) clock ps ≡ [] → part_widths (scope_of m) ps ≡ [] → (v : ℕ) × (total_width (scope_of m) ps ≡ Some v)
    rest_known no_part good built named sized = (0, refl)
    rest_known (one_part e times behind) good built named sized =
        let n = both_none (expr_faults (names_of m) clock e) _ named in
        let n' = both_none (count_faults (names_of m) times) _ n.1 in
        let s = both_none (expr_widths (scope_of m) e) _ sized in
        let t = both_none (never (count_at times) (count_number (names_of m) times)) _ s.1 in
        let rest = rest_known behind good.1 built.1 n'.1 t.1 in
        let k = part_step (names_of m) times (width (scope_of m) e) (total_width (scope_of m) behind) rest.0 n'.0 t.0 (value_known e good.0 built.0 n.0 s.0) rest.1 in
        (k.0, k.2)
