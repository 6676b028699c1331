-- The vectors of all elements: their widths, their numbers in a case, and their places.
use Rattle.std.proofs.Common.{◌≡◌, ℕ, zero, suc, ◌+◌, ◌-◌, ◌*◌, ◌/◌, ◌%◌, ◌^◌, ◌<◌, ◌≤◌, List, [], ◌∷◌, ◌++◌, length, map, drop, get_or, min, replicate, Option, Some, None, refl, sym, ap, ap₂, ◌∙◌, subst, append_assoc, append-nil, arith}
use Rattle.std.specs.List.{AllByRecursion}
use Rattle.std.proofs.lemmas.Nat.{mod-pow-add, div-mul-add, mod-mul-add, pow_pos, mod_below}
use Rattle.lola_bits.specs.Lists.{AreEach}
use Rattle.lola_bits.specs.BitLists.{number_of}
use Rattle.lola_bits.proofs.BitLists.{number_below}
use Rattle.lola_bits.proofs.Places.{drop_item}
use Rattle.std.proofs.lemmas.List.{length-map}
use Rattle.lola_flat.specs.Value.{sum_of}
use Rattle.lola_cases.specs.Cases.{AreWithin}
use Rattle.lola_cases.specs.Counting.{numbers_of}
use Rattle.lola_asked.specs.declared.bits.CaseBit.{CaseBit}
use Rattle.lola_asked.specs.Setting.{GivenFits, open_one, open_widths, filled}
use Rattle.lola_asked.specs.CaseBits.{bit_in, number_in_case, IsSmall, place_bits, fixed_bits, vector_of, vectors_of}
use Rattle.lola_asked.proofs.Digits.{place_number, fixed_number, place_long, fixed_long, place_small, fixed_small}

pub vectors_wide : (given : List (Option ℕ)) (ws : List ℕ) → AreEach GivenFits given ws → map length (vectors_of given ws) ≡ ws
vectors_wide [] [] fit = refl
vectors_wide [] (w ∷ ws) fit = absurd fit
vectors_wide (g ∷ given) [] fit = absurd fit
vectors_wide (Some n ∷ given) (w ∷ ws) fit = ap₂ (λ (x : ℕ) (xs : List ℕ). x ∷ xs) (fixed_long w n) (vectors_wide given ws fit.1)
vectors_wide (None ∷ given) (w ∷ ws) fit = ap₂ (λ (x : ℕ) (xs : List ℕ). x ∷ xs) (place_long w (sum_of (open_widths given ws))) (vectors_wide given ws fit.1)

-- the bits of a number from a place on, and those below
above : (c w s : ℕ) → c % 2 ^ (w + s) / 2 ^ s ≡ c / 2 ^ s % 2 ^ w
above c w s = ap (λ (m : ℕ). m / 2 ^ s) (mod-pow-add c w s) ∙ div-mul-add (c / 2 ^ s % 2 ^ w) (2 ^ s) (c % 2 ^ s) (mod_below c (2 ^ s) (pow_pos s))

below : (c w s : ℕ) → c % 2 ^ (w + s) % 2 ^ s ≡ c % 2 ^ s
below c w s = ap (λ (m : ℕ). m % 2 ^ s) (mod-pow-add c w s) ∙ mod-mul-add (c / 2 ^ s % 2 ^ w) (2 ^ s) (c % 2 ^ s) (mod_below c (2 ^ s) (pow_pos s))

vectors_spell : (c : ℕ) (given : List (Option ℕ)) (ws : List ℕ) → AreEach GivenFits given ws →
    map (number_in_case c) (vectors_of given ws) ≡ filled given (numbers_of (open_widths given ws) (c % 2 ^ sum_of (open_widths given ws)))
vectors_spell c [] [] fit = refl
vectors_spell c [] (w ∷ ws) fit = absurd fit
vectors_spell c (g ∷ given) [] fit = absurd fit
vectors_spell c (Some n ∷ given) (w ∷ ws) fit = ap₂ (λ (x : ℕ) (xs : List ℕ). x ∷ xs) (fixed_number c w n fit.0) (vectors_spell c given ws fit.1)
vectors_spell c (None ∷ given) (w ∷ ws) fit =
    let s = sum_of (open_widths given ws) in
    ap₂ (λ (x : ℕ) (xs : List ℕ). x ∷ xs) (place_number c w s ∙ sym (above c w s))
    (vectors_spell c given ws fit.1 ∙ ap (λ (m : ℕ). filled given (numbers_of (open_widths given ws) m)) (sym (below c w s)))

itself : (c m : ℕ) → c < m → c % m ≡ c
itself c m inside = let none : c ≡ 0 * m + c = omega arith in ap (λ (x : ℕ). x % m) none ∙ mod-mul-add 0 m c inside

pub vectors_are : (c : ℕ) (given : List (Option ℕ)) (ws : List ℕ) → AreEach GivenFits given ws → c < 2 ^ sum_of (open_widths given ws) →
    map (number_in_case c) (vectors_of given ws) ≡ filled given (numbers_of (open_widths given ws) c)
vectors_are c given ws fit inside =
    vectors_spell c given ws fit ∙ ap (λ (m : ℕ). filled given (numbers_of (open_widths given ws) m)) (itself c (2 ^ sum_of (open_widths given ws)) inside)

pub vectors_small : (given : List (Option ℕ)) (ws : List ℕ) → sum_of (open_widths given ws) ≤ 64 → AllByRecursion (AllByRecursion IsSmall) (vectors_of given ws)
vectors_small [] ws few = tt
vectors_small (g ∷ given) [] few = tt
vectors_small (Some n ∷ given) (w ∷ ws) few = (fixed_small w n, vectors_small given ws few)
vectors_small (None ∷ given) (w ∷ ws) few = (place_small w (sum_of (open_widths given ws)) (omega arith), vectors_small given ws (omega arith))

-- in each case the numbers of vectors lie below 2 to their widths
pub numbers_within : (c : ℕ) (vectors : List (List CaseBit)) → AreWithin (map length vectors) (map (number_in_case c) vectors)
numbers_within c [] = tt
numbers_within c (bits ∷ vectors) = (ap_below c bits, numbers_within c vectors)
  where
    ap_below : (c : ℕ) (bits : List CaseBit) → number_in_case c bits < 2 ^ length bits
    ap_below c bits = let h = number_below (map (bit_in c) bits) in let e = length-map bits (bit_in c) in rw (sym e) h

-- a list that is made step by step
pub moved : {X : Type 0} (before now : List X) (x : X) (rest all : List X) → now ≡ before ++ x ∷ [] → before ++ x ∷ rest ≡ all → now ++ rest ≡ all
moved {X = X} before now x rest all pushed so = ap (λ (l : List X). l ++ rest) pushed ∙ (append_assoc before (x ∷ []) rest ∙ so)

pub each_long : {X Y : Type 0} (P : X → Y → Type 0) (xs : List X) (ys : List Y) → AreEach P xs ys → length xs ≡ length ys
each_long P [] [] all = refl
each_long P [] (y ∷ ys) all = absurd all
each_long P (x ∷ xs) [] all = absurd all
each_long P (x ∷ xs) (y ∷ ys) all = ap suc (each_long P xs ys all.1)

-- the vectors so far, where these elements are left
pub record AreVectorsSoFar (given : List (Option ℕ)) (ws : List ℕ) (rest : List (Option ℕ)) (rest_widths : List ℕ) (left : ℕ) (vectors : List (List CaseBit)) : Type 0 where
  pub each : AreEach GivenFits rest rest_widths
  pub counted : left ≡ sum_of (open_widths rest rest_widths)
  pub few : left ≤ 16
  pub made : vectors ++ vectors_of rest rest_widths ≡ vectors_of given ws

-- the widths of what isn't given so far
pub record AreOpenSoFar (given : List (Option ℕ)) (ws : List ℕ) (rest : List (Option ℕ)) (rest_widths : List ℕ) (made : List ℕ) : Type 0 where
  pub each : AreEach GivenFits rest rest_widths
  pub widths : made ++ open_widths rest rest_widths ≡ open_widths given ws

-- in each turn the element is taken from what is left
turned : {X Y : Type 0} (P : List X → List Y → Type 0) (xs : List X) (ys : List Y) (at : ℕ) (x : X) (y : Y) → at < length xs → x ≡ get_or xs at x → at < length ys → y ≡ get_or ys at y → P (drop at xs) (drop at ys) →
    P (x ∷ drop (at + 1) xs) (y ∷ drop (at + 1) ys)
turned {X = X} {Y = Y} P xs ys at x y within is within_too is_too so =
    subst (λ (l : List X). P l (y ∷ drop (at + 1) ys)) (drop_item xs at x within is) (subst (λ (l : List Y). P (drop at xs) l) (drop_item ys at y within_too is_too) so)

sum_both : (xs ys : List ℕ) → sum_of (xs ++ ys) ≡ sum_of xs + sum_of ys
sum_both [] ys = omega arith
sum_both (x ∷ xs) ys = let h = sum_both xs ys in omega (arith, h)

more_vectors : (given : List (Option ℕ)) (ws : List ℕ) (g : Option ℕ) (rest : List (Option ℕ)) (w : ℕ) (rest_widths : List ℕ) (left now_left : ℕ) (before now : List (List CaseBit)) (vector : List CaseBit) →
    now_left ≡ left - sum_of (open_one g w) → vector ≡ vector_of g w now_left → now ≡ before ++ vector ∷ [] → AreVectorsSoFar given ws (g ∷ rest) (w ∷ rest_widths) left before → AreVectorsSoFar given ws rest rest_widths now_left now
more_vectors given ws g rest w rest_widths left now_left before now vector less is pushed so =
    let counted : left ≡ sum_of (open_one g w ++ open_widths rest rest_widths) = so.counted in
    let split = sum_both (open_one g w) (open_widths rest rest_widths) in
    let few : left ≤ 16 = so.few in
    let behind : now_left ≡ sum_of (open_widths rest rest_widths) = omega (arith, less, counted, split) in
    record {
      each = so.each.1;
      counted = behind;
      few = omega (arith, few, less);
      made = moved before now vector (vectors_of rest rest_widths) (vectors_of given ws) pushed
          (ap (λ (v : List CaseBit). before ++ v ∷ vectors_of rest rest_widths) (is ∙ ap (vector_of g w) behind) ∙ so.made);
    }

pub vectors_step : (given : List (Option ℕ)) (ws : List ℕ) (at : ℕ) (g : Option ℕ) (w left now_left : ℕ) (before now : List (List CaseBit)) (vector : List CaseBit) → at < length given → g ≡ get_or given at g → at < length ws → w ≡ get_or ws at w →
    now_left ≡ left - sum_of (open_one g w) → vector ≡ vector_of g w now_left → now ≡ before ++ vector ∷ [] → AreVectorsSoFar given ws (drop at given) (drop at ws) left before →
    AreVectorsSoFar given ws (drop (at + 1) given) (drop (at + 1) ws) now_left now
vectors_step given ws at g w left now_left before now vector within is within_too is_too less vector_is pushed so =
    more_vectors given ws g (drop (at + 1) given) w (drop (at + 1) ws) left now_left before now vector less vector_is pushed
    (turned (λ (l : List (Option ℕ)) (k : List ℕ). AreVectorsSoFar given ws l k left before) given ws at g w within is within_too is_too so)

-- the element's places are among those that are left
fits : (given : List (Option ℕ)) (ws : List ℕ) (g : Option ℕ) (rest : List (Option ℕ)) (w : ℕ) (rest_widths : List ℕ) (left : ℕ) (before : List (List CaseBit)) → AreVectorsSoFar given ws (g ∷ rest) (w ∷ rest_widths) left before →
    (sum_of (open_one g w) ≤ left) × (left ≤ 16)
fits given ws g rest w rest_widths left before so =
    let counted : left ≡ sum_of (open_one g w ++ open_widths rest rest_widths) = so.counted in
    let split = sum_both (open_one g w) (open_widths rest rest_widths) in
    (omega (arith, counted, split), so.few)

pub vectors_fit : (given : List (Option ℕ)) (ws : List ℕ) (at : ℕ) (g : Option ℕ) (w left : ℕ) (before : List (List CaseBit)) → at < length given → g ≡ get_or given at g → at < length ws → w ≡ get_or ws at w →
    AreVectorsSoFar given ws (drop at given) (drop at ws) left before → (sum_of (open_one g w) ≤ left) × (left ≤ 16)
vectors_fit given ws at g w left before within is within_too is_too so =
    fits given ws g (drop (at + 1) given) w (drop (at + 1) ws) left before
    (turned (λ (l : List (Option ℕ)) (k : List ℕ). AreVectorsSoFar given ws l k left before) given ws at g w within is within_too is_too so)

pub all_vectors : (given : List (Option ℕ)) (ws : List ℕ) (rest : List (Option ℕ)) (rest_widths : List ℕ) (left : ℕ) (vectors : List (List CaseBit)) → rest ≡ [] → AreVectorsSoFar given ws rest rest_widths left vectors → vectors ≡ vectors_of given ws
all_vectors given ws rest rest_widths left vectors none so =
    sym (append-nil vectors) ∙ (ap (λ (l : List (Option ℕ)). vectors ++ vectors_of l rest_widths) (sym none) ∙ so.made)

-- the same of widths
pub open_step : (given : List (Option ℕ)) (ws : List ℕ) (at : ℕ) (g : Option ℕ) (w : ℕ) (before now : List ℕ) → at < length given → g ≡ get_or given at g → at < length ws → w ≡ get_or ws at w → now ≡ before ++ open_one g w →
    AreOpenSoFar given ws (drop at given) (drop at ws) before → AreOpenSoFar given ws (drop (at + 1) given) (drop (at + 1) ws) now
open_step given ws at g w before now within is within_too is_too pushed so =
    let here = turned (λ (l : List (Option ℕ)) (k : List ℕ). AreOpenSoFar given ws l k before) given ws at g w within is within_too is_too so in
    record {
      each = here.each.1;
      widths = ap (λ (l : List ℕ). l ++ open_widths (drop (at + 1) given) (drop (at + 1) ws)) pushed ∙ (append_assoc before (open_one g w) (open_widths (drop (at + 1) given) (drop (at + 1) ws)) ∙ here.widths);
    }

pub all_open : (given : List (Option ℕ)) (ws : List ℕ) (rest : List (Option ℕ)) (rest_widths : List ℕ) (made : List ℕ) → rest ≡ [] → AreOpenSoFar given ws rest rest_widths made → made ≡ open_widths given ws
all_open given ws rest rest_widths made none so = sym (append-nil made) ∙ (ap (λ (l : List (Option ℕ)). made ++ open_widths l rest_widths) (sym none) ∙ so.widths)

-- bits that are counted as far as a number goes
pub counted_so_far : (bits : ℕ) (rest widths : List ℕ) → rest ≡ [] → bits ≤ 4294967295 → min (bits + sum_of rest) 4294967295 ≡ min (sum_of widths) 4294967295 → bits ≡ min (sum_of widths) 4294967295
counted_so_far bits rest widths none fits so =
    let zero_left : sum_of rest ≡ 0 = ap sum_of none in
    omega (arith, zero_left, fits, so)

-- one more of the same
pub same_more : (count at w : ℕ) (before now all : List ℕ) → at < count → now ≡ before ++ w ∷ [] → before ++ replicate (count - at) w ≡ all → now ++ replicate (count - (at + 1)) w ≡ all
same_more count at w before now all within pushed so =
    let more : count - at ≡ suc (count - (at + 1)) = omega arith in
    moved before now w (replicate (count - (at + 1)) w) all pushed (ap (λ (n : ℕ). before ++ replicate n w) (sym more) ∙ so)
