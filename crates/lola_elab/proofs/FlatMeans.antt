-- The expressions over leaves that trees mean, case by case.
use Rattle.std.proofs.Common.{◌≡◌, ℕ, ◌+◌, ◌-◌, ◌^◌, ◌<◌, ◌≤◌, ◌/◌, ◌%◌, cond, List, [], ◌∷◌, Option, Some, None, refl, sym, ◌∙◌, ap, ap₂, subst, arith, inl, inr}
use Rattle.std.proofs.lemmas.Bool.{cases_Bool, cond-true, cond-false}
use Rattle.std.specs.Prelude.{nat_eq, nat_lt}
use Rattle.lola_bits.specs.declared.op.Op.{Op}
use Rattle.lola_bits.specs.Vector.{FitsWidth}
use Rattle.lola_bits.specs.Number.{bit_at, slice_of, inverted, operate}
use Rattle.lola_bits.proofs.Options.{some_same}
use Rattle.lola_bits.proofs.Tests.{chosen_yes}
use Rattle.lola_tree.specs.declared.named.Count.{Count}
use Rattle.lola_tree.specs.declared.named.Ref.{Ref}
use Rattle.lola_tree.specs.Tree.{Tree, number, whole, bit, slice, negation, binary, choice}
use Rattle.lola_tree.specs.Width.{width, checked_width, same_width, defined_width, bit_width, slice_width, number_width, operator_width}
use Rattle.lola_tree.specs.Value.{value, or_zero, or_read}
use Rattle.lola_elab.specs.declared.flat.Flat.{Flat}
use Rattle.lola_elab.specs.declared.flat.Flat.TheVariants.{Number, Leaf}
use Rattle.lola_elab.specs.declared.meaning.Meaning.{Meaning}
use Rattle.lola_elab.specs.declared.meaning.Meaning.TheVariants as meaning
use Rattle.lola_elab.specs.Flat.{flat_width, flat_number}
use Rattle.lola_elab.specs.Meanings.{Meanings, path_meaning, meaning_of, IsVector, count_of, HasMeaning, AreVectors, NotBelow, IsFlatOf, HasNoFlat}
use Rattle.lola_elab.proofs.Widths.{below_is, width_checked, number_in, same_is, same_self, defined_is, bit_is, bit_within, slice_is, slice_within, operator_narrow}

-- a written number
pub number_is : (names : Meanings) (v : ℕ) (written : Option ℕ) (at w : ℕ) → number_width v written ≡ Some w → IsFlatOf names (number v written at) (Number w v) w
number_is names v written at w e =
    let fits : FitsWidth w v = (number_in v written w e).1 in
    record {
      built = tt;
      positive = fits.positive;
      at_most = fits.at_most;
      tree_width = λ scope widths are. e;
      leaf_width = λ scope widths are. chosen_yes (nat_lt v (2 ^ w)) w (below_is v (2 ^ w) fits.below);
      number = λ scope widths are read numbers reads. refl;
    }

pub no_number : (names : Meanings) (v : ℕ) (written : Option ℕ) (at : ℕ) → number_width v written ≡ None → HasNoFlat names (number v written at)
no_number names v written at none scope widths are built w e = let f : None ≡ Some w = sym none ∙ e in absurd cc

-- what a reference stands for is a vector
of_path : (names : Meanings) (path : List (List ℕ)) (m : Meaning) → AreVectors names → path_meaning names path ≡ Some m → IsVector m
of_path names [] m vectors e = absurd (let f : None ≡ Some m = e in cc)
of_path names (name ∷ []) m vectors e = vectors.each name m e
of_path names (name ∷ other ∷ more) m vectors e = absurd (let f : None ≡ Some m = e in cc)

of_ref : (names : Meanings) (r : Ref) (m : Meaning) → AreVectors names → meaning_of names r ≡ Some m → IsVector m
of_ref names r m vectors e = elim (cases_Bool r.source) [
  | inl source ↦ absurd (let f : None ≡ Some m = sym (cond-true r.source None (path_meaning names r.path) source) ∙ e in cc)
  | inr bare ↦ of_path names r.path m vectors (sym (cond-false r.source None (path_meaning names r.path) bare) ∙ e)
]

-- a leaf, and a constant
pub leaf_is : (names : Meanings) (r : Ref) (n w : ℕ) → AreVectors names → meaning_of names r ≡ Some (meaning.Leaf n w) → IsFlatOf names (whole r) (Leaf n) w
leaf_is names r n w vectors e =
    let fits = of_ref names r (meaning.Leaf n w) vectors e in
    record {
      built = record { meaning = meaning.Leaf n w; is = e };
      positive = fits.0;
      at_most = fits.1;
      tree_width = λ scope widths are. (are.leaf r n w e).0;
      leaf_width = λ scope widths are. (are.leaf r n w e).2;
      number = λ scope widths are read numbers reads. sym (ap (λ (c : Option ℕ). or_read c (read r 0)) (are.leaf r n w e).1 ∙ reads r n w e);
    }

pub constant_is : (names : Meanings) (r : Ref) (w v : ℕ) → AreVectors names → meaning_of names r ≡ Some (meaning.Constant w v) → IsFlatOf names (whole r) (Number w v) w
constant_is names r w v vectors e =
    let fits = of_ref names r (meaning.Constant w v) vectors e in
    record {
      built = record { meaning = meaning.Constant w v; is = e };
      positive = fits.positive;
      at_most = fits.at_most;
      tree_width = λ scope widths are. (are.constant r w v e).0;
      leaf_width = λ scope widths are. chosen_yes (nat_lt v (2 ^ w)) w (below_is v (2 ^ w) fits.below);
      number = λ scope widths are read numbers reads. sym (ap (λ (c : Option ℕ). or_read c (read r 0)) (are.constant r w v e).1);
    }

pub no_name : (names : Meanings) (r : Ref) → meaning_of names r ≡ None → HasMeaning names r → ⊥
no_name names r none has = let f : None ≡ Some has.meaning = sym none ∙ has.is in cc

-- a bit of a name
pub bit_flat_is : (names : Meanings) (r : Ref) (c : Count) (at n w : ℕ) (of made : Flat) → IsFlatOf names (whole r) of w → count_of names c ≡ Some n → n < w →
    ((widths : List ℕ) → flat_width widths made ≡ slice_width (Some n) (Some n) (flat_width widths of)) →
    ((widths numbers : List ℕ) → flat_number widths made numbers ≡ slice_of (flat_number widths of numbers) n n) → IsFlatOf names (bit r c at) made 1
bit_flat_is names r c at n w of made is place within wide numbered = record {
  built = is.built;
  positive = omega arith;
  at_most = omega arith;
  tree_width = λ scope widths are.
      ap₂ bit_width (are.counts c ∙ place) (is.tree_width scope widths are) ∙ bit_within n w within;
  leaf_width = λ scope widths are.
      let one : n - n + 1 ≡ 1 = omega arith in
      wide widths ∙ ap (slice_width (Some n) (Some n)) (is.leaf_width scope widths are) ∙ slice_within n n w within (omega arith) ∙ ap (λ (k : ℕ). Some k) one;
  number = λ scope widths are read numbers reads.
      let x : ℕ = value scope (whole r) read in
      let one : n - n + 1 ≡ 1 = omega arith in
      let two : slice_of x n n ≡ bit_at x n = ap (λ (k : ℕ). x / 2 ^ n % 2 ^ k) one in
      numbered widths numbers ∙ ap (λ (y : ℕ). slice_of y n n) (is.number scope widths are read numbers reads) ∙ two
      ∙ ap (λ (o : Option ℕ). bit_at x (or_zero o)) (sym (are.counts c ∙ place));
}

pub no_bit : (names : Meanings) (r : Ref) (c : Count) (at w : ℕ) (of : Flat) → IsFlatOf names (whole r) of w → NotBelow (count_of names c) w → HasNoFlat names (bit r c at)
no_bit names r c at w of is above scope widths are built v e =
    let b = bit_is (count_of names c) w v (sym (ap₂ bit_width (are.counts c) (is.tree_width scope widths are)) ∙ e) in
    let h : NotBelow (Some b.0) w = subst (λ (o : Option ℕ). NotBelow o w) b.1 above in
    let k : b.0 < w = b.2 in
    omega arith

-- a slice of a name
pub slice_flat_is : (names : Meanings) (r : Ref) (ch cl : Count) (at h l w : ℕ) (of made : Flat) → IsFlatOf names (whole r) of w → count_of names ch ≡ Some h → h < w → count_of names cl ≡ Some l → l < h + 1 →
    ((widths : List ℕ) → flat_width widths made ≡ slice_width (Some h) (Some l) (flat_width widths of)) →
    ((widths numbers : List ℕ) → flat_number widths made numbers ≡ slice_of (flat_number widths of numbers) h l) → IsFlatOf names (slice r ch cl at) made (h - l + 1)
slice_flat_is names r ch cl at h l w of made is high within low order wide numbered =
    let most : w ≤ 128 = is.at_most in
    record {
      built = is.built;
      positive = omega arith;
      at_most = omega arith;
      tree_width = λ scope widths are.
          ap₂ (λ (x y : Option ℕ). slice_width x y (width scope (whole r))) (are.counts ch ∙ high) (are.counts cl ∙ low) ∙ ap (slice_width (Some h) (Some l)) (is.tree_width scope widths are)
          ∙ slice_within h l w within (omega arith);
      leaf_width = λ scope widths are. wide widths ∙ ap (slice_width (Some h) (Some l)) (is.leaf_width scope widths are) ∙ slice_within h l w within (omega arith);
      number = λ scope widths are read numbers reads.
          numbered widths numbers ∙ ap (λ (y : ℕ). slice_of y h l) (is.number scope widths are read numbers reads)
          ∙ ap₂ (λ (x y : Option ℕ). slice_of (value scope (whole r) read) (or_zero x) (or_zero y)) (sym (are.counts ch ∙ high)) (sym (are.counts cl ∙ low));
    }

pub no_high : (names : Meanings) (r : Ref) (ch cl : Count) (at w : ℕ) (of : Flat) → IsFlatOf names (whole r) of w → NotBelow (count_of names ch) w → HasNoFlat names (slice r ch cl at)
no_high names r ch cl at w of is above scope widths are built v e =
    let s = slice_is (count_of names ch) (count_of names cl) (Some w) v
    (sym (ap₂ (λ (x y : Option ℕ). slice_width x y (width scope (whole r))) (are.counts ch) (are.counts cl) ∙ ap (slice_width (count_of names ch) (count_of names cl)) (is.tree_width scope widths are)) ∙ e) in
    let a : NotBelow (Some s.0) w = subst (λ (o : Option ℕ). NotBelow o w) s.3 above in
    let same : w ≡ s.2 = some_same w s.2 s.5 in
    let within : s.0 < s.2 = s.6 in
    omega arith

pub no_low : (names : Meanings) (r : Ref) (ch cl : Count) (at h w : ℕ) (of : Flat) → IsFlatOf names (whole r) of w → count_of names ch ≡ Some h → NotBelow (count_of names cl) (h + 1) → HasNoFlat names (slice r ch cl at)
no_low names r ch cl at h w of is high above scope widths are built v e =
    let s = slice_is (count_of names ch) (count_of names cl) (width scope (whole r)) v
    (sym (ap₂ (λ (x y : Option ℕ). slice_width x y (width scope (whole r))) (are.counts ch) (are.counts cl)) ∙ e) in
    let a : NotBelow (Some s.1) (h + 1) = subst (λ (o : Option ℕ). NotBelow o (h + 1)) s.4 above in
    let same : h ≡ s.0 = some_same h s.0 (sym high ∙ s.3) in
    let order : s.1 ≤ s.0 = s.7 in
    omega arith

pub not_flat_is : (names : Meanings) (e : Tree) (at w : ℕ) (arg made : Flat) → IsFlatOf names e arg w →
    ((widths : List ℕ) → flat_width widths made ≡ checked_width (flat_width widths arg)) →
    ((widths numbers : List ℕ) → flat_number widths made numbers ≡ inverted (or_zero (flat_width widths arg)) (flat_number widths arg numbers)) → IsFlatOf names (negation e at) made w
not_flat_is names e at w arg made is wide numbered = record {
  built = is.built;
  positive = is.positive;
  at_most = is.at_most;
  tree_width = λ scope widths are. is.tree_width scope widths are;
  leaf_width = λ scope widths are. wide widths ∙ ap checked_width (is.leaf_width scope widths are) ∙ width_checked w is.positive is.at_most;
  number = λ scope widths are read numbers reads.
      numbered widths numbers
      ∙ ap₂ (λ (o : Option ℕ) (x : ℕ). inverted (or_zero o) x) (is.leaf_width scope widths are ∙ sym (is.tree_width scope widths are)) (is.number scope widths are read numbers reads);
}

pub both_flat_is : (o : Op) (names : Meanings) (a b : Tree) (at v u w : ℕ) (left right made : Flat) → operator_width o (Some v) (Some u) ≡ Some w → IsFlatOf names a left v → IsFlatOf names b right u →
    ((widths : List ℕ) → flat_width widths made ≡ operator_width o (checked_width (flat_width widths left)) (checked_width (flat_width widths right))) →
    ((widths numbers : List ℕ) → flat_number widths made numbers ≡ operate o (or_zero (flat_width widths left)) (flat_number widths left numbers) (flat_number widths right numbers)) →
    IsFlatOf names (binary o a b at) made w
both_flat_is o names a b at v u w left right made makes l r wide numbered =
    let narrow = operator_narrow o v u w makes l.positive l.at_most in
    record {
      built = (l.built, r.built);
      positive = narrow.0;
      at_most = narrow.1;
      tree_width = λ scope widths are. ap₂ (operator_width o) (l.tree_width scope widths are) (r.tree_width scope widths are) ∙ makes;
      leaf_width = λ scope widths are.
          wide widths
          ∙ ap₂ (λ (x y : Option ℕ). operator_width o (checked_width x) (checked_width y)) (l.leaf_width scope widths are) (r.leaf_width scope widths are)
          ∙ ap₂ (operator_width o) (width_checked v l.positive l.at_most) (width_checked u r.positive r.at_most) ∙ makes;
      number = λ scope widths are read numbers reads.
          numbered widths numbers
          ∙ ap (λ (x : Option ℕ). operate o (or_zero x) (flat_number widths left numbers) (flat_number widths right numbers)) (l.leaf_width scope widths are ∙ sym (l.tree_width scope widths are))
          ∙ ap₂ (operate o (or_zero (width scope a))) (l.number scope widths are read numbers reads) (r.number scope widths are read numbers reads);
    }

pub no_both : (o : Op) (names : Meanings) (a b : Tree) (at v u : ℕ) (left right : Flat) → operator_width o (Some v) (Some u) ≡ None → IsFlatOf names a left v → IsFlatOf names b right u → HasNoFlat names (binary o a b at)
no_both o names a b at v u left right none l r scope widths are built w e =
    let f : None ≡ Some w = sym none ∙ sym (ap₂ (operator_width o) (l.tree_width scope widths are) (r.tree_width scope widths are)) ∙ e in
    absurd cc

pub choice_flat_is : (names : Meanings) (c a b : Tree) (at t v u : ℕ) (test first second made : Flat) → t ≡ 1 → u ≡ v → IsFlatOf names c test t → IsFlatOf names a first v → IsFlatOf names b second u →
    ((widths : List ℕ) → flat_width widths made ≡ defined_width (same_width (checked_width (flat_width widths first)) (checked_width (flat_width widths second))) (same_width (Some 1) (flat_width widths test))) →
    ((widths numbers : List ℕ) → flat_number widths made numbers ≡ cond (nat_eq (flat_number widths test numbers) 1) (flat_number widths first numbers) (flat_number widths second numbers)) →
    IsFlatOf names (choice c a b at) made v
choice_flat_is names c a b at t v u test first second made one same ic ia ib wide numbered = record {
  built = (ic.built, ia.built, ib.built);
  positive = ia.positive;
  at_most = ia.at_most;
  tree_width = λ scope widths are. both (width scope a) (width scope b) (width scope c) (ia.tree_width scope widths are) (ib.tree_width scope widths are) (ic.tree_width scope widths are);
  leaf_width = λ scope widths are.
      wide widths
      ∙ both (checked_width (flat_width widths first)) (checked_width (flat_width widths second)) (flat_width widths test)
      (ap checked_width (ia.leaf_width scope widths are) ∙ width_checked v ia.positive ia.at_most)
      (ap checked_width (ib.leaf_width scope widths are) ∙ width_checked u ib.positive ib.at_most) (ic.leaf_width scope widths are);
  number = λ scope widths are read numbers reads.
      numbered widths numbers
      ∙ ap (λ (n : ℕ). cond (nat_eq n 1) (flat_number widths first numbers) (flat_number widths second numbers)) (ic.number scope widths are read numbers reads)
      ∙ ap₂ (cond (nat_eq (value scope c read) 1)) (ia.number scope widths are read numbers reads) (ib.number scope widths are read numbers reads);
}
  where
    both : (x y z : Option ℕ) → x ≡ Some v → y ≡ Some u → z ≡ Some t → defined_width (same_width x y) (same_width (Some 1) z) ≡ Some v
    both x y z e f g =
        ap₂ (λ (p q : Option ℕ). defined_width (same_width p q) (same_width (Some 1) z)) e (f ∙ ap (λ (n : ℕ). Some n) same)
        ∙ ap₂ defined_width (same_self v) (ap (same_width (Some 1)) (g ∙ ap (λ (n : ℕ). Some n) one) ∙ same_self 1)

pub no_choice : (names : Meanings) (c a b : Tree) (at t v u : ℕ) (test first second : Flat) → (t ≡ 1 → v ≡ u → ⊥) → IsFlatOf names c test t → IsFlatOf names a first v → IsFlatOf names b second u → HasNoFlat names (choice c a b at)
no_choice names c a b at t v u test first second off ic ia ib scope widths are built w e =
    let d = defined_is (same_width (width scope a) (width scope b)) (same_width (Some 1) (width scope c)) w e in
    let s = same_is (width scope a) (width scope b) w d.0 in
    let k = same_is (Some 1) (width scope c) d.1.0 d.1.1 in
    let va : v ≡ w = some_same v w (sym (ia.tree_width scope widths are) ∙ s.0) in
    let ub : u ≡ w = some_same u w (sym (ib.tree_width scope widths are) ∙ s.1) in
    let tc : t ≡ d.1.0 = some_same t d.1.0 (sym (ic.tree_width scope widths are) ∙ k.1) in
    let one : 1 ≡ d.1.0 = some_same 1 d.1.0 k.0 in
    off (tc ∙ sym one) (va ∙ sym ub)
