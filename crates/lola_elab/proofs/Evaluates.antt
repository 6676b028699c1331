-- The bits of expressions over vectors, case by case.
use Rattle.std.proofs.Common.{◌≡◌, ℕ, zero, suc, ◌+◌, ◌-◌, ◌*◌, ◌/◌, ◌%◌, ◌^◌, ◌<◌, ◌≤◌, Bool, true, false, cond, List, [], ◌∷◌, ◌++◌, length, map, take, drop, get_or, Option, Some, refl, sym, ◌∙◌, ap, ap₂, subst, arith, append-nil, append_assoc, mul_assoc, mul_comm}
use Rattle.std.specs.Prelude.{nat_eq, nat_lt, slice_get, slice_index_or, Result, Ok, Err, IfOk}
use Rattle.std.specs.List.{AllByRecursion}
use Rattle.std.proofs.lemmas.List.{length-append, length-take, length-drop}
use Rattle.lola_bits.specs.declared.op.Op.{Op}
use Rattle.lola_bits.specs.declared.op.Op.TheVariants as op
use Rattle.lola_bits.specs.Number.{slice_of, joined, inverted, operate, number}
use Rattle.lola_bits.proofs.Options.{some_same, nothing}
use Rattle.lola_bits.specs.BitLists.{number_of}
use Rattle.lola_bits.proofs.BitLists.{pow_more, number_append, number_take, number_drop}
use Rattle.lola_bits.proofs.Tests.{chosen}
use Rattle.lola_tree.specs.Width.{checked_width, same_width, operator_width, repeated_width, joined_width}
use Rattle.lola_tree.specs.Value.{or_zero, repeated}
use Rattle.lola_alg.specs.Means.{IsWidth, Suits, op_width, op_works, op_number, AreKnown, number_at, MeansOp}
use Rattle.lola_alg.specs.Plain.{plain_meaning}
use Rattle.lola_elab.specs.declared.flat.Flat.{Flat}
use Rattle.lola_elab.specs.declared.flat.Flat.TheVariants.{Number, Leaf, Slice', Join', Repeat', Not', Both', Choice'}
use Rattle.lola_elab.specs.Flat.{flat_width, flat_number, HasWidth, PartsHaveWidths}
use Rattle.lola_elab.specs.Evaluated.{IsNumber, IsEvaluated}
use Rattle.lola_elab.proofs.Widths.{is_below, equal_is, checked_is, same_is, defined_is, slice_is, operator_parts, repeated_is, repeated_of, joined_is}

-- numbers bit by bit
pub all_bits : (bits : List Bool) (width rest value : ℕ) → length bits ≡ width → number_of bits + 2 ^ length bits * rest ≡ value → value < 2 ^ width → IsNumber bits width value
all_bits bits width zero value long made below = record { long = long; means = (let z : 2 ^ length bits * 0 ≡ 0 = omega arith in omega arith) }
all_bits bits width (suc rest) value long made below =
    let p : 2 ^ length bits ≡ 2 ^ width = ap (λ (n : ℕ). 2 ^ n) long in
    let q : 2 ^ length bits * suc rest ≡ 2 ^ length bits + 2 ^ length bits * rest = omega arith in
    absurd (omega arith)

one_more : (old : List Bool) (b : Bool) (rest : ℕ) → rest ≡ number b + 2 * (rest / 2) → number_of (old ++ b ∷ []) + 2 ^ length (old ++ b ∷ []) * (rest / 2) ≡ number_of old + 2 ^ length old * rest
one_more [] true rest e = omega arith
one_more [] false rest e = omega arith
one_more (x ∷ xs) b rest e =
    let h = one_more xs b rest e in
    let p : 2 ^ suc (length (xs ++ b ∷ [])) * (rest / 2) ≡ 2 * (2 ^ length (xs ++ b ∷ []) * (rest / 2)) = ap (λ k. k * (rest / 2)) (pow_more (length (xs ++ b ∷ []))) ∙ mul_assoc 2 (2 ^ length (xs ++ b ∷ [])) (rest / 2) in
    let q : 2 ^ suc (length xs) * rest ≡ 2 * (2 ^ length xs * rest) = ap (λ k. k * rest) (pow_more (length xs)) ∙ mul_assoc 2 (2 ^ length xs) rest in
    omega arith

lowest : (b : Bool) (rest : ℕ) → b ≡ nat_eq (rest % 2) 1 → rest ≡ number b + 2 * (rest / 2)
lowest true rest e = let h : rest % 2 ≡ 1 = equal_is (rest % 2) 1 (sym e) in omega arith
lowest false rest e = let h : rest % 2 ≡ 0 = zero_left (rest % 2) (omega arith) (sym e) in omega arith
  where
    zero_left : (n : ℕ) → n < 2 → nat_eq n 1 ≡ false → n ≡ 0
    zero_left zero below e = refl
    zero_left (suc zero) below e = absurd (let f : true ≡ false = e in cc)
    zero_left (suc (suc n)) below e = absurd (omega arith)

pub one_bit_more : (old new : List Bool) (b : Bool) (rest value : ℕ) → new ≡ old ++ b ∷ [] → b ≡ nat_eq (rest % 2) 1 → number_of old + 2 ^ length old * rest ≡ value → number_of new + 2 ^ length new * (rest / 2) ≡ value
one_bit_more old new b rest value pushed is made =
    ap (λ (l : List Bool). number_of l + 2 ^ length l * (rest / 2)) pushed ∙ one_more old b rest (lowest b rest is) ∙ made

-- a slice
pub slice_number : (bits above within made : List Bool) (high low : ℕ) → high < length bits → low ≤ high → above ≡ drop low bits → within ≡ take (high - low + 1) above → made ≡ within →
    IsNumber made (high - low + 1) (slice_of (number_of bits) high low)
slice_number bits above within made high low inside order a w m =
    let all : made ≡ take (high - low + 1) (drop low bits) = m ∙ w ∙ ap (λ (l : List Bool). take (high - low + 1) l) a in
    let k : ℕ = high - low + 1 in
    let d : length (drop low bits) ≡ length bits - low = length-drop low bits in
    record {
      long = ap (λ (l : List Bool). length l) all ∙ length-take k (drop low bits) ∙ (omega arith);
      means = ap number_of all ∙ number_take k (drop low bits) ∙ ap (λ (n : ℕ). n % 2 ^ k) (number_drop low bits);
    }

turned : (x p n : ℕ) → x + p * n ≡ n * p + x
turned x p n = let h = mul_comm p n in omega arith

pub join_number : (high low made : List Bool) → made ≡ low ++ high → IsNumber made (length high + length low) (joined (number_of high) (length low) (number_of low))
join_number high low made e = record {
  long = ap (λ (l : List Bool). length l) e ∙ length-append low high ∙ (omega arith);
  means = ap number_of e ∙ number_append low high ∙ turned (number_of low) (2 ^ length low) (number_of high);
}

-- a list several times
abbrev pub copies : ℕ → List Bool → List Bool
copies zero part = []
copies (suc times) part = part ++ copies times part

pub one_copy_more : (times : ℕ) (part : List Bool) → copies times part ++ part ≡ copies (suc times) part
one_copy_more zero part = sym (append-nil part)
one_copy_more (suc times) part = append_assoc part (copies times part) part ∙ ap (λ (l : List Bool). part ++ l) (one_copy_more times part)

pub copies_number : (times : ℕ) (part : List Bool) → IsNumber (copies times part) (times * length part) (repeated times (length part) (number_of part))
copies_number zero part = record { long = omega arith; means = refl }
copies_number (suc times) part =
    let so = copies_number times part in
    record {
      long = length-append part (copies times part) ∙ ap (λ (n : ℕ). length part + n) so.long ∙ (omega arith);
      means = number_append part (copies times part) ∙ ap (λ (n : ℕ). number_of part + 2 ^ length part * n) so.means ∙ turned (number_of part) (2 ^ length part) (repeated times (length part) (number_of part));
    }

-- over bool each bit is known, and its own value
pub all_known : (args : List (List Bool)) → AllByRecursion (AreKnown plain_meaning tt) args
all_known [] = tt
all_known (x ∷ xs) = (each x, all_known xs)
  where
    each : (bits : List Bool) → AreKnown plain_meaning tt bits
    each [] = tt
    each (b ∷ bs) = (refl, each bs)

own_value : (bits : List Bool) (v : ℕ → Bool) → number_at plain_meaning tt v bits ≡ number_of bits
own_value [] v = refl
own_value (b ∷ bs) v = ap (λ (n : ℕ). number b + 2 * n) (own_value bs v)

own_values : (args : List (List Bool)) (v : ℕ → Bool) → map (number_at plain_meaning tt v) args ≡ map number_of args
own_values [] v = refl
own_values (x ∷ xs) v = ap₂ (λ (n : ℕ) (ns : List ℕ). n ∷ ns) (own_value x v) (own_values xs v)

pub op_bits : (o : Op) (args : List (List Bool)) (bits : List Bool) → MeansOp plain_meaning o args tt (tt, bits) →
    IsNumber bits (op_width o (map length args)) (op_number o (op_works o (map length args)) (map number_of args))
op_bits o args bits m = record {
  long = m.long;
  means = sym (own_value bits (λ n. false)) ∙ m.means (λ n. false) ∙ ap (op_number o (op_works o (map length args))) (own_values args (λ n. false));
}

-- an operator's widths suit it
pub record SuitsBoth (o : Op) (v u w : ℕ) : Type 0 where
  pub suits : Suits o (v ∷ u ∷ [])
  pub wide : op_width o (v ∷ u ∷ []) ≡ w
  pub number : (x y : ℕ) → op_number o (op_works o (v ∷ u ∷ [])) (x ∷ y ∷ []) ≡ operate o v x y

suits_both : (o : Op) (v u w : ℕ) → IsWidth v → IsWidth u → operator_width o (Some v) (Some u) ≡ Some w → SuitsBoth o v u w
suits_both op.Eq v u w a b e = let d = defined_is (Some 1) (same_width (Some v) (Some u)) w e in let s = same_is (Some v) (Some u) d.1.0 d.1.1 in
    record { suits = (a, some_same u v (s.1 ∙ sym s.0)); wide = some_same 1 w d.0; number = λ x y. refl }
suits_both op.Ne v u w a b e = let d = defined_is (Some 1) (same_width (Some v) (Some u)) w e in let s = same_is (Some v) (Some u) d.1.0 d.1.1 in
    record { suits = (a, some_same u v (s.1 ∙ sym s.0)); wide = some_same 1 w d.0; number = λ x y. refl }
suits_both op.Lt v u w a b e = let d = defined_is (Some 1) (same_width (Some v) (Some u)) w e in let s = same_is (Some v) (Some u) d.1.0 d.1.1 in
    record { suits = (a, some_same u v (s.1 ∙ sym s.0)); wide = some_same 1 w d.0; number = λ x y. refl }
suits_both op.Le v u w a b e = let d = defined_is (Some 1) (same_width (Some v) (Some u)) w e in let s = same_is (Some v) (Some u) d.1.0 d.1.1 in
    record { suits = (a, some_same u v (s.1 ∙ sym s.0)); wide = some_same 1 w d.0; number = λ x y. refl }
suits_both op.Gt v u w a b e = let d = defined_is (Some 1) (same_width (Some v) (Some u)) w e in let s = same_is (Some v) (Some u) d.1.0 d.1.1 in
    record { suits = (a, some_same u v (s.1 ∙ sym s.0)); wide = some_same 1 w d.0; number = λ x y. refl }
suits_both op.Ge v u w a b e = let d = defined_is (Some 1) (same_width (Some v) (Some u)) w e in let s = same_is (Some v) (Some u) d.1.0 d.1.1 in
    record { suits = (a, some_same u v (s.1 ∙ sym s.0)); wide = some_same 1 w d.0; number = λ x y. refl }
suits_both op.Shl v u w a b e = record { suits = (a, b); wide = some_same v w e; number = λ x y. refl }
suits_both op.Shr v u w a b e = record { suits = (a, b); wide = some_same v w e; number = λ x y. refl }
suits_both op.Asr v u w a b e = record { suits = (a, b); wide = some_same v w e; number = λ x y. refl }
suits_both op.Ror v u w a b e = record { suits = (a, b); wide = some_same v w e; number = λ x y. refl }
suits_both op.And v u w a b e = let s = same_is (Some v) (Some u) w e in record { suits = (a, some_same u v (s.1 ∙ sym s.0)); wide = some_same v w s.0; number = λ x y. refl }
suits_both op.Or v u w a b e = let s = same_is (Some v) (Some u) w e in record { suits = (a, some_same u v (s.1 ∙ sym s.0)); wide = some_same v w s.0; number = λ x y. refl }
suits_both op.Xor v u w a b e = let s = same_is (Some v) (Some u) w e in record { suits = (a, some_same u v (s.1 ∙ sym s.0)); wide = some_same v w s.0; number = λ x y. refl }
suits_both op.Add v u w a b e = let s = same_is (Some v) (Some u) w e in record { suits = (a, some_same u v (s.1 ∙ sym s.0)); wide = some_same v w s.0; number = λ x y. refl }
suits_both op.Sub v u w a b e = let s = same_is (Some v) (Some u) w e in record { suits = (a, some_same u v (s.1 ∙ sym s.0)); wide = some_same v w s.0; number = λ x y. refl }
suits_both op.Not v u w a b e = nothing w e
suits_both op.Mux v u w a b e = nothing w e

module _ (leaves : List (List Bool)) where
  -- a number and a leaf
  pub number_below : (w v : ℕ) → HasWidth (map length leaves) (Number w v) → v < 2 ^ w
  number_below w v has = is_below v (2 ^ w) (chosen (nat_lt v (2 ^ w)) w has.width has.is).0

  pub number_evaluated : (w v : ℕ) (bits : List Bool) → HasWidth (map length leaves) (Number w v) → IsNumber bits w v → IsEvaluated (Number w v) leaves bits
  number_evaluated w v bits has is =
      let c = chosen (nat_lt v (2 ^ w)) w has.width has.is in
      record { long = has.is ∙ ap (λ (n : ℕ). Some n) (sym c.1 ∙ sym is.long); means = is.means }

  pub leaf_within : (n : ℕ) → HasWidth (map length leaves) (Leaf n) → n < length leaves
  leaf_within n has = within leaves n has.width has.is
    where
      within : (xs : List (List Bool)) (n w : ℕ) → slice_get (map length xs) n ≡ Some w → n < length xs
      within [] n w e = nothing w e
      within (x ∷ xs) zero w e = omega arith
      within (x ∷ xs) (suc n) w e = let h = within xs n w e in omega arith

  pub leaf_evaluated : (n : ℕ) (d : List Bool) → n < length leaves → IsEvaluated (Leaf n) leaves (get_or leaves n d)
  leaf_evaluated n d inside = record { long = long leaves n inside; means = means leaves n inside }
    where
      long : (xs : List (List Bool)) (n : ℕ) → n < length xs → slice_get (map length xs) n ≡ Some (length (get_or xs n d))
      long [] n inside = absurd (omega arith)
      long (x ∷ xs) zero inside = refl
      long (x ∷ xs) (suc n) inside = long xs n (omega arith)

      means : (xs : List (List Bool)) (n : ℕ) → n < length xs → number_of (get_or xs n d) ≡ slice_index_or (map number_of xs) n 0
      means [] n inside = absurd (omega arith)
      means (x ∷ xs) zero inside = refl
      means (x ∷ xs) (suc n) inside = means xs n (omega arith)

  pub leaf_copied : {E : Type 0} (r : Result (List Bool) E) (flat : Flat) (n : ℕ) (item bits : List Bool) → flat ≡ Leaf n → HasWidth (map length leaves) flat → item ≡ get_or leaves n item → bits ≡ item →
      IfOk r (λ made. made ≡ bits) → IfOk r (λ made. IsEvaluated flat leaves made)
  leaf_copied (Ok made) flat n item bits is has at same copied =
      let inside : n < length leaves = leaf_within n (subst (λ (f : Flat). HasWidth (map length leaves) f) is has) in
      subst (λ (f : Flat). IsEvaluated f leaves made) (sym is)
      (subst (λ (x : List Bool). IsEvaluated (Leaf n) leaves x) (sym (copied ∙ same ∙ at)) (leaf_evaluated n item inside))
  leaf_copied (Err fault) flat n item bits is has at same copied = tt

  -- a slice
  pub slice_of_width : (p : _) (of : Flat) (high low : ℕ) → HasWidth (map length leaves) (Slice' p of high low) → HasWidth (map length leaves) of
  slice_of_width p of high low has =
      let s = slice_is (Some high) (Some low) (flat_width (map length leaves) of) has.width has.is in record { width = s.2; is = s.5 }

  pub slice_within : (p : _) (of : Flat) (high low : ℕ) (bits : List Bool) → HasWidth (map length leaves) (Slice' p of high low) → IsEvaluated of leaves bits → (high < length bits) × (low ≤ high)
  slice_within p of high low bits has is =
      let s = slice_is (Some high) (Some low) (flat_width (map length leaves) of) has.width has.is in
      let long : s.2 ≡ length bits = some_same s.2 (length bits) (sym s.5 ∙ is.long) in
      let h : high ≡ s.0 = some_same high s.0 s.3 in
      let l : low ≡ s.1 = some_same low s.1 s.4 in
      let within : s.0 < s.2 = s.6 in
      let order : s.1 ≤ s.0 = s.7 in
      (omega arith, omega arith)

  pub slice_evaluated : (p : _) (of : Flat) (high low : ℕ) (bits made : List Bool) → HasWidth (map length leaves) (Slice' p of high low) → IsEvaluated of leaves bits →
      IsNumber made (high - low + 1) (slice_of (number_of bits) high low) → IsEvaluated (Slice' p of high low) leaves made
  slice_evaluated p of high low bits made has is number =
      let s = slice_is (Some high) (Some low) (flat_width (map length leaves) of) has.width has.is in
      let h : high ≡ s.0 = some_same high s.0 s.3 in
      let l : low ≡ s.1 = some_same low s.1 s.4 in
      let w : has.width ≡ s.0 - s.1 + 1 = s.8 in
      let long : has.width ≡ length made = (omega (arith, number.long)) in
      record { long = has.is ∙ ap (λ (n : ℕ). Some n) long; means = number.means ∙ ap (λ (x : ℕ). slice_of x high low) is.means }

  -- two joined
  pub join_high : (p q : _) (high low : Flat) → HasWidth (map length leaves) (Join' p high q low) → HasWidth (map length leaves) high
  join_high p q high low has =
      let j = joined_is (flat_width (map length leaves) high) (flat_width (map length leaves) low) has.width has.is in record { width = j.0; is = j.2 }

  pub join_low : (p q : _) (high low : Flat) → HasWidth (map length leaves) (Join' p high q low) → HasWidth (map length leaves) low
  join_low p q high low has =
      let j = joined_is (flat_width (map length leaves) high) (flat_width (map length leaves) low) has.width has.is in record { width = j.1; is = j.3 }

  pub join_evaluated : (p q : _) (high low : Flat) (x y made : List Bool) → IsEvaluated high leaves x → IsEvaluated low leaves y →
      IsNumber made (length x + length y) (joined (number_of x) (length y) (number_of y)) → IsEvaluated (Join' p high q low) leaves made
  join_evaluated p q high low x y made ix iy number = record {
    long = ap₂ joined_width ix.long iy.long ∙ ap (λ (n : ℕ). Some n) (sym number.long);
    means = number.means ∙ ap₂ (λ (a b : ℕ). joined a (length y) b) ix.means iy.means
        ∙ ap (λ (o : Option ℕ). joined (flat_number (map length leaves) high (map number_of leaves)) (or_zero o) (flat_number (map length leaves) low (map number_of leaves))) (sym iy.long);
  }

  -- one several times
  pub repeat_part : (p : _) (part : Flat) (times : ℕ) → HasWidth (map length leaves) (Repeat' p part times) → HasWidth (map length leaves) part
  repeat_part p part times has =
      let r = repeated_is (flat_width (map length leaves) part) (Some times) has.width has.is in record { width = r.0; is = r.2 }

  pub repeat_evaluated : (p : _) (part : Flat) (times : ℕ) (x made : List Bool) → HasWidth (map length leaves) (Repeat' p part times) → IsEvaluated part leaves x →
      IsNumber made (times * length x) (repeated times (length x) (number_of x)) → IsEvaluated (Repeat' p part times) leaves made
  repeat_evaluated p part times x made has ix number =
      let r = repeated_is (flat_width (map length leaves) part) (Some times) has.width has.is in
      let t : times ≡ r.1 = some_same times r.1 r.3 in
      let some : 1 ≤ times = subst (λ (n : ℕ). 1 ≤ n) (sym t) r.4 in
      record {
        long = ap (λ (o : Option ℕ). repeated_width o (Some times)) ix.long ∙ repeated_of (length x) times some ∙ ap (λ (n : ℕ). Some n) (sym number.long);
        means = number.means ∙ ap₂ (λ (o : Option ℕ) (n : ℕ). repeated times (or_zero o) n) (sym ix.long) ix.means;
      }

  -- an operator on one, on two, and a choice
  pub not_arg : (p : _) (arg : Flat) → HasWidth (map length leaves) (Not' p arg) → HasWidth (map length leaves) arg
  not_arg p arg has = record { width = has.width; is = (checked_is (flat_width (map length leaves) arg) has.width has.is).0 }

  pub not_suits : (p : _) (arg : Flat) (x : List Bool) → HasWidth (map length leaves) (Not' p arg) → IsEvaluated arg leaves x → Suits op.Not (length x ∷ [])
  not_suits p arg x has is =
      let c = checked_is (flat_width (map length leaves) arg) has.width has.is in
      let long : has.width ≡ length x = some_same has.width (length x) (sym c.0 ∙ is.long) in
      (subst (λ (n : ℕ). 1 ≤ n) long c.1, subst (λ (n : ℕ). n ≤ 128) long c.2)

  pub not_evaluated : (p : _) (arg : Flat) (x made : List Bool) → HasWidth (map length leaves) (Not' p arg) → IsEvaluated arg leaves x →
      IsNumber made (length x) (inverted (length x) (number_of x)) → IsEvaluated (Not' p arg) leaves made
  not_evaluated p arg x made has is number =
      let c = checked_is (flat_width (map length leaves) arg) has.width has.is in
      let long : has.width ≡ length x = some_same has.width (length x) (sym c.0 ∙ is.long) in
      record {
        long = has.is ∙ ap (λ (n : ℕ). Some n) (long ∙ sym number.long);
        means = number.means ∙ ap₂ (λ (o : Option ℕ) (n : ℕ). inverted (or_zero o) n) (sym is.long) is.means;
      }

  -- the widths of two that an operator takes
  record BothHave (o : Op) (left right : Flat) (w : ℕ) : Type 0 where
    pub v : ℕ
    pub u : ℕ
    pub left_is : flat_width (map length leaves) left ≡ Some v
    pub right_is : flat_width (map length leaves) right ≡ Some u
    pub left_wide : IsWidth v
    pub right_wide : IsWidth u
    pub makes : operator_width o (Some v) (Some u) ≡ Some w

  both_have : (p q : _) (o : Op) (left right : Flat) → (has : HasWidth (map length leaves) (Both' o p left q right)) → BothHave o left right has.width
  both_have p q o left right has =
      let parts = operator_parts o (checked_width (flat_width (map length leaves) left)) (checked_width (flat_width (map length leaves) right)) has.width has.is in
      let l = checked_is (flat_width (map length leaves) left) parts.0 parts.2 in
      let r = checked_is (flat_width (map length leaves) right) parts.1 parts.3 in
      record {
        v = parts.0;
        u = parts.1;
        left_is = l.0;
        right_is = r.0;
        left_wide = (l.1, l.2);
        right_wide = (r.1, r.2);
        makes = sym (ap₂ (operator_width o) parts.2 parts.3) ∙ has.is;
      }

  pub both_left : (p q : _) (o : Op) (left right : Flat) → HasWidth (map length leaves) (Both' o p left q right) → HasWidth (map length leaves) left
  both_left p q o left right has = let b = both_have p q o left right has in record { width = b.v; is = b.left_is }

  pub both_right : (p q : _) (o : Op) (left right : Flat) → HasWidth (map length leaves) (Both' o p left q right) → HasWidth (map length leaves) right
  both_right p q o left right has = let b = both_have p q o left right has in record { width = b.u; is = b.right_is }

  both_suit : (p q : _) (o : Op) (left right : Flat) (x y : List Bool) → (has : HasWidth (map length leaves) (Both' o p left q right)) → IsEvaluated left leaves x → IsEvaluated right leaves y →
      SuitsBoth o (length x) (length y) has.width
  both_suit p q o left right x y has ix iy =
      let b = both_have p q o left right has in
      let lx : b.v ≡ length x = some_same b.v (length x) (sym b.left_is ∙ ix.long) in
      let ly : b.u ≡ length y = some_same b.u (length y) (sym b.right_is ∙ iy.long) in
      subst (λ (n : ℕ). SuitsBoth o n (length y) has.width) lx (subst (λ (n : ℕ). SuitsBoth o b.v n has.width) ly (suits_both o b.v b.u has.width b.left_wide b.right_wide b.makes))

  pub both_suits : (p q : _) (o : Op) (left right : Flat) (x y : List Bool) → HasWidth (map length leaves) (Both' o p left q right) → IsEvaluated left leaves x → IsEvaluated right leaves y →
      Suits o (length x ∷ length y ∷ [])
  both_suits p q o left right x y has ix iy = (both_suit p q o left right x y has ix iy).suits

  pub both_evaluated : (p q : _) (o : Op) (left right : Flat) (x y made : List Bool) → HasWidth (map length leaves) (Both' o p left q right) → IsEvaluated left leaves x → IsEvaluated right leaves y →
      IsNumber made (op_width o (length x ∷ length y ∷ [])) (op_number o (op_works o (length x ∷ length y ∷ [])) (number_of x ∷ number_of y ∷ [])) → IsEvaluated (Both' o p left q right) leaves made
  both_evaluated p q o left right x y made has ix iy number =
      let s = both_suit p q o left right x y has ix iy in
      record {
        long = has.is ∙ ap (λ (n : ℕ). Some n) (sym s.wide ∙ sym number.long);
        means = number.means ∙ s.number (number_of x) (number_of y)
            ∙ ap (λ (k : Option ℕ). operate o (or_zero k) (number_of x) (number_of y)) (sym ix.long)
            ∙ ap₂ (operate o (or_zero (flat_width (map length leaves) left))) ix.means iy.means;
      }

  record ChoiceHas (test first second : Flat) (w : ℕ) : Type 0 where
    pub test_is : flat_width (map length leaves) test ≡ Some 1
    pub yes_is : flat_width (map length leaves) first ≡ Some w
    pub no_is : flat_width (map length leaves) second ≡ Some w
    pub wide : IsWidth w

  choice_has : (p q r : _) (test first second : Flat) → (has : HasWidth (map length leaves) (Choice' p test q first r second)) → ChoiceHas test first second has.width
  choice_has p q r test first second has =
      let d = defined_is (same_width (checked_width (flat_width (map length leaves) first)) (checked_width (flat_width (map length leaves) second))) (same_width (Some 1) (flat_width (map length leaves) test)) has.width has.is in
      let s = same_is (checked_width (flat_width (map length leaves) first)) (checked_width (flat_width (map length leaves) second)) has.width d.0 in
      let t = same_is (Some 1) (flat_width (map length leaves) test) d.1.0 d.1.1 in
      let a = checked_is (flat_width (map length leaves) first) has.width s.0 in
      let b = checked_is (flat_width (map length leaves) second) has.width s.1 in
      record { test_is = t.1 ∙ sym t.0; yes_is = a.0; no_is = b.0; wide = (a.1, a.2) }

  pub choice_test : (p q r : _) (test first second : Flat) → HasWidth (map length leaves) (Choice' p test q first r second) → HasWidth (map length leaves) test
  choice_test p q r test first second has = record { width = 1; is = (choice_has p q r test first second has).test_is }

  pub choice_yes : (p q r : _) (test first second : Flat) → HasWidth (map length leaves) (Choice' p test q first r second) → HasWidth (map length leaves) first
  choice_yes p q r test first second has = record { width = has.width; is = (choice_has p q r test first second has).yes_is }

  pub choice_no : (p q r : _) (test first second : Flat) → HasWidth (map length leaves) (Choice' p test q first r second) → HasWidth (map length leaves) second
  choice_no p q r test first second has = record { width = has.width; is = (choice_has p q r test first second has).no_is }

  pub choice_suits : (p q r : _) (test first second : Flat) (t x y : List Bool) → HasWidth (map length leaves) (Choice' p test q first r second) → IsEvaluated test leaves t → IsEvaluated first leaves x → IsEvaluated second leaves y →
      Suits op.Mux (length t ∷ length x ∷ length y ∷ [])
  choice_suits p q r test first second t x y has it ix iy =
      let c = choice_has p q r test first second has in
      let lt : 1 ≡ length t = some_same 1 (length t) (sym c.test_is ∙ it.long) in
      let lx : has.width ≡ length x = some_same has.width (length x) (sym c.yes_is ∙ ix.long) in
      let ly : has.width ≡ length y = some_same has.width (length y) (sym c.no_is ∙ iy.long) in
      (sym lt, (subst IsWidth lx c.wide, sym ly ∙ lx))

  pub choice_evaluated : (p q r : _) (test first second : Flat) (t x y made : List Bool) → HasWidth (map length leaves) (Choice' p test q first r second) → IsEvaluated test leaves t → IsEvaluated first leaves x → IsEvaluated second leaves y →
      IsNumber made (length x) (cond (nat_eq (number_of t) 1) (number_of x) (number_of y)) → IsEvaluated (Choice' p test q first r second) leaves made
  choice_evaluated p q r test first second t x y made has it ix iy number =
      let c = choice_has p q r test first second has in
      let lx : has.width ≡ length x = some_same has.width (length x) (sym c.yes_is ∙ ix.long) in
      record {
        long = has.is ∙ ap (λ (n : ℕ). Some n) (lx ∙ sym number.long);
        means = number.means ∙ ap (λ (n : ℕ). cond (nat_eq n 1) (number_of x) (number_of y)) it.means
            ∙ ap₂ (cond (nat_eq (flat_number (map length leaves) test (map number_of leaves)) 1)) ix.means iy.means;
      }

  pub parts_have : (flat : Flat) → HasWidth (map length leaves) flat → PartsHaveWidths (map length leaves) flat
  parts_have (Number width value) has = tt
  parts_have (Leaf number) has = tt
  parts_have (Slice' p of high low) has = slice_of_width p of high low has
  parts_have (Join' p high q low) has = (join_high p q high low has, join_low p q high low has)
  parts_have (Repeat' p part times) has = repeat_part p part times has
  parts_have (Not' p arg) has = not_arg p arg has
  parts_have (Both' o p left q right) has = (both_left p q o left right has, both_right p q o left right has)
  parts_have (Choice' p test q first r second) has = (choice_test p q r test first second has, choice_yes p q r test first second has, choice_no p q r test first second has)
