-- Values are below 2 to their widths, and places below the numbers of elements.
use Rattle.std.proofs.Common.{List, ◌++◌, refl, ◌≡◌, ℕ, zero, suc, ◌+◌, ◌-◌, ◌*◌, ◌/◌, ◌%◌, ◌^◌, ◌<◌, ◌≤◌, Bool, true, false, cond, not, Option, Some, None, sym, ◌∙◌, ap, ap₂, subst, arith, inl, inr}
use Rattle.std.specs.Prelude.{nat_eq, nat_lt, bit_and}
use Rattle.std.proofs.lemmas.Nat.{and_le_l, pow_pos}
use Rattle.std.proofs.Math.Nat.{div-le_self}
use Rattle.lola_bits.specs.declared.op.Op.{Op}
use Rattle.lola_bits.specs.declared.op.Op.TheVariants as op
use Rattle.lola_bits.specs.Number.{bit_at, slice_of, joined, inverted, operate, moved_filled}
use Rattle.lola_bits.specs.Number as bits
use Rattle.lola_bits.specs.Vector.{FitsWidth}
use Rattle.lola_bits.proofs.Numbers.{or_fits, xor_fits, filled_fits, joined_below}
use Rattle.lola_bits.proofs.Options.{some_same, nothing}
use Rattle.lola_tree.specs.declared.named.Ref.{Ref}
use Rattle.lola_tree.specs.Tree.{Tree, number, whole, bit, slice, index, concat, negation, binary, choice, Parts, no_part, one_part}
use Rattle.lola_tree.specs.Width.{Scope as Widths, width, total_width, same_width, defined_width, bit_width, repeated_width, operator_width}
use Rattle.lola_bits.specs.Lists.{IsIn}
use Rattle.lola_bits.proofs.Lists.{in_front, in_back, in_either}
use Rattle.lola_tree.specs.design.Chains.{name_in, names_in, part_names_in, elements_in, part_elements_in}
use Rattle.lola_tree.specs.Value.{value, value_of_parts, or_zero, or_read, repeated}
use Rattle.lola_values.proofs.Widths.{checked_is, number_in, same_is, defined_is, bit_is, slice_is, operator_parts, operator_narrow, repeated_is, joined_is}

mod_below : (x w : ℕ) → x % 2 ^ w < 2 ^ w
mod_below x w = let h = pow_pos w in omega arith

bit_below : (b : Bool) → bits.number b < 2 ^ 1
bit_below true = omega arith
bit_below false = omega arith

-- what an operator makes of numbers that fit, in its width
kept : (w u : ℕ) (x : ℕ) → Some w ≡ Some u → x < 2 ^ w → x < 2 ^ u
kept w u x e below = subst (λ (k : ℕ). x < 2 ^ k) (some_same w u e) below

one_bit : (a : Option ℕ) (u : ℕ) (b : Bool) → defined_width (Some 1) a ≡ Some u → bits.number b < 2 ^ u
one_bit a u b e = kept 1 u (bits.number b) (defined_is (Some 1) a u e).0 (bit_below b)

operate_below : (o : Op) (w v u x y : ℕ) → operator_width o (Some w) (Some v) ≡ Some u → FitsWidth w x → FitsWidth v y → operate o w x y < 2 ^ u
operate_below op.Not w v u x y e fx fy = nothing u e
operate_below op.Mux w v u x y e fx fy = nothing u e
operate_below op.And w v u x y e fx fy = let h = and_le_l x y in let b : x < 2 ^ w = fx.below in kept w u (bit_and x y) (same_is (Some w) (Some v) u e).0 (omega arith)
operate_below op.Or w v u x y e fx fy =
    let s = same_is (Some w) (Some v) u e in
    kept w u (operate op.Or w x y) s.0 (or_fits w v x y fx fy (some_same v w (s.1 ∙ sym s.0))).below
operate_below op.Xor w v u x y e fx fy =
    let s = same_is (Some w) (Some v) u e in
    kept w u (operate op.Xor w x y) s.0 (xor_fits w v x y fx fy (some_same v w (s.1 ∙ sym s.0))).below
operate_below op.Add w v u x y e fx fy = kept w u (operate op.Add w x y) (same_is (Some w) (Some v) u e).0 (mod_below (x + y) w)
operate_below op.Sub w v u x y e fx fy = kept w u (operate op.Sub w x y) (same_is (Some w) (Some v) u e).0 (mod_below (2 ^ w + x - y) w)
operate_below op.Eq w v u x y e fx fy = one_bit (same_width (Some w) (Some v)) u (nat_eq x y) e
operate_below op.Ne w v u x y e fx fy = one_bit (same_width (Some w) (Some v)) u (not (nat_eq x y)) e
operate_below op.Lt w v u x y e fx fy = one_bit (same_width (Some w) (Some v)) u (nat_lt x y) e
operate_below op.Le w v u x y e fx fy = one_bit (same_width (Some w) (Some v)) u (not (nat_lt y x)) e
operate_below op.Gt w v u x y e fx fy = one_bit (same_width (Some w) (Some v)) u (nat_lt y x) e
operate_below op.Ge w v u x y e fx fy = one_bit (same_width (Some w) (Some v)) u (not (nat_lt x y)) e
operate_below op.Shl w v u x y e fx fy = kept w u (operate op.Shl w x y) e (mod_below (x * 2 ^ y) w)
operate_below op.Shr w v u x y e fx fy = let h = div-le_self x (2 ^ y) in let b : x < 2 ^ w = fx.below in kept w u (operate op.Shr w x y) e (omega arith)
operate_below op.Asr w v u x y e fx fy = kept w u (operate op.Asr w x y) e (filled_fits x w y fx)
operate_below op.Ror w v u x y e fx fy = kept w u (operate op.Ror w x y) e (mod_below (x / 2 ^ (y % w) + x * 2 ^ (w - y % w)) w)

repeat_below : (n w x : ℕ) → x < 2 ^ w → repeated n w x < 2 ^ (n * w)
repeat_below zero w x below = let z : 0 * w ≡ 0 = omega arith in subst (λ (k : ℕ). 0 < 2 ^ k) (sym z) (omega arith)
repeat_below (suc n) w x below =
    let z : n * w + w ≡ suc n * w = omega arith in
    subst (λ (k : ℕ). repeated (suc n) w x < 2 ^ k) z (joined_below (repeated n w x) (n * w) x w (repeat_below n w x below) below)

place_one : (place width : Option ℕ) (w : ℕ) → bit_width place width ≡ Some w → w ≡ 1
place_one None width w e = nothing w e
place_one (Some n) None w e = nothing w e
place_one (Some n) (Some v) w e = (bit_is (Some n) v w e).3

mod_two : (x : ℕ) → x % 2 < 2 ^ 1
mod_two x = omega arith

chosen_fits : (b : Bool) (x y w : ℕ) → FitsWidth w x → FitsWidth w y → FitsWidth w (cond b x y)
chosen_fits true x y w a b = a
chosen_fits false x y w a b = b

-- where the values of names and elements fit, those of expressions do
module _ (scope : Widths) (read : Ref → ℕ → ℕ) (limit : Ref → ℕ) (P Q : Ref → Type 0)
    (fit : (r : Ref) → P r → (w : ℕ) → scope.width r ≡ Some w → FitsWidth w (read r 0))
    (const_ : (r : Ref) (c w : ℕ) → scope.number r ≡ Some c → scope.width r ≡ Some w → FitsWidth w c)
    (element : (r : Ref) → Q r → (n : ℕ) → n < limit r → (w : ℕ) → scope.element r ≡ Some w → FitsWidth w (read r n))
    (limit_is : (r : Ref) → Q r → (k : ℕ) → scope.place r ≡ Some k → limit r ≡ 2 ^ k) where
  abbrev Named_ : List Ref → Type 0
  Named_ rs = (r : Ref) → IsIn r rs → P r

  abbrev Placed_ : List (Ref × Tree) → Type 0
  Placed_ as_ = (a : Ref × Tree) → IsIn a as_ → Q a.0

  abbrev pub Within_ : List (Ref × Tree) → Type 0
  Within_ as_ = (a : Ref × Tree) → IsIn a as_ → value scope a.1 read < limit a.0

  both_within : (xs ys : List (Ref × Tree)) → Within_ xs → Within_ ys → Within_ (xs ++ ys)
  both_within xs ys p q a is = elim (in_either a xs ys is) [ inl front ↦ p a front | inr back ↦ q a back ]

  name_fits : (of : Ref) → Named_ (name_in scope of) → (w : ℕ) → scope.width of ≡ Some w → FitsWidth w (or_read (scope.number of) (read of 0))
  name_fits of named w e = by_number (scope.number of) refl
    where
      by_number : (o : Option ℕ) → scope.number of ≡ o → FitsWidth w (or_read (scope.number of) (read of 0))
      by_number None f = rw f (fit of (named of (rw f (inl refl))) w e)
      by_number (Some c) f = rw f (const_ of c w f e)

  slice_fits : (of : Ref) (h l v w x : ℕ) → FitsWidth v x → h < v → l ≤ h → w ≡ h - l + 1 → FitsWidth w (slice_of x h l)
  slice_fits of h l v w x wide within order size =
      let most : v ≤ 128 = wide.at_most in
      record { positive = omega arith; at_most = omega arith; below = subst (λ (k : ℕ). slice_of x h l < 2 ^ k) (sym size) (mod_below (x / 2 ^ l) (h - l + 1)) }

  mutual
    pub value_fits : (e : Tree) → Named_ (names_in scope e) → Placed_ (elements_in e) → (w : ℕ) → width scope e ≡ Some w → FitsWidth w (value scope e read) × Within_ (elements_in e)
    value_fits (number n written at) named placed w e = ((number_in n written w e).1, λ a none. absurd none)
    value_fits (whole of) named placed w e = (name_fits of named w e, λ a none. absurd none)
    value_fits (bit of place at) named placed w e =
        let x : ℕ = or_read (scope.number of) (read of 0) in
        let one = place_one (scope.count place) (scope.width of) w e in
        let low : bit_at x (or_zero (scope.count place)) < 2 ^ 1 = mod_two (x / 2 ^ or_zero (scope.count place)) in
        (record { positive = omega (arith, one); at_most = omega (arith, one); below = subst (λ (k : ℕ). bit_at x (or_zero (scope.count place)) < 2 ^ k) (sym one) low }, λ a none. absurd none)
    value_fits (slice of high low at) named placed w e =
        let s = slice_is (scope.count high) (scope.count low) (scope.width of) w e in
        let x : ℕ = or_read (scope.number of) (read of 0) in
        (subst (λ (n : ℕ). FitsWidth w n) (ap₂ (λ (a b : Option ℕ). slice_of x (or_zero a) (or_zero b)) (sym s.3) (sym s.4)) (slice_fits of s.0 s.1 s.2 w x (name_fits of named s.2 s.5) s.6 s.7 s.8), λ a none. absurd none)
    value_fits (index of place at) named placed w e =
        let d = defined_is (scope.element of) (same_width (scope.place of) (width scope place)) w e in
        let k = same_is (scope.place of) (width scope place) d.1.0 d.1.1 in
        let inner = value_fits place named (λ a is. placed a (inr is)) d.1.0 k.1 in
        let q = placed (of, place) (inl refl) in
        let below : value scope place read < limit of = subst (λ (n : ℕ). value scope place read < n) (sym (limit_is of q d.1.0 k.0)) inner.0.below in (
          element of q (value scope place read) below w d.0,
          λ a is. elim is [
            | inl same ↦ subst (λ (b : Ref × Tree). value scope b.1 read < limit b.0) (sym same) below
            | inr later ↦ inner.1 a later
          ],
        )
    value_fits (concat parts at) named placed w e =
        let c = checked_is (total_width scope parts) w e in
        let r = parts_fit parts named placed w c.0 in
        (record { positive = c.1; at_most = c.2; below = r.0 }, r.1)
    value_fits (negation e at) named placed w f =
        let h = value_fits e named placed w f in
        let p = pow_pos w in
        let less : inverted w (value scope e read) < 2 ^ w = omega arith in
        (record { positive = h.0.positive; at_most = h.0.at_most; below = subst (λ (o : Option ℕ). inverted (or_zero o) (value scope e read) < 2 ^ w) (sym f) less }, h.1)
    value_fits (binary o a b at) named placed w e =
        let p = operator_parts o (width scope a) (width scope b) w e in
        let fa = value_fits a (λ r is. named r (in_front r (names_in scope a) (names_in scope b) is)) (λ r is. placed r (in_front r (elements_in a) (elements_in b) is)) p.0 p.2 in
        let fb = value_fits b (λ r is. named r (in_back r (names_in scope a) (names_in scope b) is)) (λ r is. placed r (in_back r (elements_in a) (elements_in b) is)) p.1 p.3 in
        let makes : operator_width o (Some p.0) (Some p.1) ≡ Some w = sym (ap₂ (operator_width o) p.2 p.3) ∙ e in
        let narrow = operator_narrow o p.0 p.1 w makes fa.0.positive fa.0.at_most in (
          record {
            positive = narrow.0;
            at_most = narrow.1;
            below = subst (λ (k : Option ℕ). operate o (or_zero k) (value scope a read) (value scope b read) < 2 ^ w) (sym p.2)
                (operate_below o p.0 p.1 w (value scope a read) (value scope b read) makes fa.0 fb.0);
          },
          both_within (elements_in a) (elements_in b) fa.1 fb.1,
        )
    value_fits (choice test first second at) named placed w e =
        let d = defined_is (same_width (width scope first) (width scope second)) (same_width (Some 1) (width scope test)) w e in
        let s = same_is (width scope first) (width scope second) w d.0 in
        let t = same_is (Some 1) (width scope test) d.1.0 d.1.1 in
        let n = λ (r : Ref) (is : IsIn r (names_in scope first ++ names_in scope second)). named r (in_back r (names_in scope test) (names_in scope first ++ names_in scope second) is) in
        let q = λ (a : Ref × Tree) (is : IsIn a (elements_in first ++ elements_in second)). placed a (in_back a (elements_in test) (elements_in first ++ elements_in second) is) in
        let ft = value_fits test (λ r is. named r (in_front r (names_in scope test) (names_in scope first ++ names_in scope second) is)) (λ a is. placed a (in_front a (elements_in test) (elements_in first ++ elements_in second) is)) d.1.0 t.1 in
        let fa = value_fits first (λ r is. n r (in_front r (names_in scope first) (names_in scope second) is)) (λ a is. q a (in_front a (elements_in first) (elements_in second) is)) w s.0 in
        let fb = value_fits second (λ r is. n r (in_back r (names_in scope first) (names_in scope second) is)) (λ a is. q a (in_back a (elements_in first) (elements_in second) is)) w s.1 in (
          chosen_fits (nat_eq (value scope test read) 1) (value scope first read) (value scope second read) w fa.0 fb.0,
          both_within (elements_in test) (elements_in first ++ elements_in second) ft.1 (both_within (elements_in first) (elements_in second) fa.1 fb.1),
        )

    parts_fit : (ps : Parts) → Named_ (part_names_in scope ps) → Placed_ (part_elements_in ps) → (w : ℕ) → total_width scope ps ≡ Some w → (value_of_parts scope ps read < 2 ^ w) × Within_ (part_elements_in ps)
    parts_fit no_part named placed w e = (kept 0 w 0 e (omega arith), λ a none. absurd none)
    parts_fit (one_part e times behind) named placed w f =
        let j = joined_is (repeated_width (width scope e) (scope.count times)) (total_width scope behind) w f in
        let r = repeated_is (width scope e) (scope.count times) j.0 j.2 in
        let part = value_fits e (λ r is. named r (in_front r (names_in scope e) (part_names_in scope behind) is)) (λ a is. placed a (in_front a (elements_in e) (part_elements_in behind) is)) r.0 r.2 in
        let more = parts_fit behind (λ r is. named r (in_back r (names_in scope e) (part_names_in scope behind) is)) (λ a is. placed a (in_back a (elements_in e) (part_elements_in behind) is)) j.1 j.3 in
        let size : r.1 * r.0 + j.1 ≡ w = ap (λ (k : ℕ). k + j.1) (sym r.5) ∙ sym j.4 in
        let all = joined_below (repeated r.1 r.0 (value scope e read)) (r.1 * r.0) (value_of_parts scope behind read) j.1 (repeat_below r.1 r.0 (value scope e read) part.0.below) more.0 in
        let sized = subst (λ (k : ℕ). joined (repeated r.1 r.0 (value scope e read)) j.1 (value_of_parts scope behind read) < 2 ^ k) size all in (
          subst (λ (n : ℕ). n < 2 ^ w)
              (ap₂ (λ (a b : Option ℕ). joined (repeated (or_zero a) (or_zero b) (value scope e read)) j.1 (value_of_parts scope behind read)) (sym r.3) (sym r.2)
              ∙ ap (λ (o : Option ℕ). joined (repeated (or_zero (scope.count times)) (or_zero (width scope e)) (value scope e read)) (or_zero o) (value_of_parts scope behind read)) (sym j.3)) sized,
          both_within (elements_in e) (part_elements_in behind) part.1 more.1,
        )
