-- Bits of numbers, from the highest down and from the lowest up, and the values of literals side by side.
use Rattle.std.proofs.Common.{◌≡◌, ℕ, zero, suc, ◌+◌, ◌*◌, ◌-◌, ◌<◌, ◌≤◌, ◌^◌, Bool, true, false, cond, not, List, [], ◌∷◌, ◌++◌, length, map, refl, sym, ◌∙◌, ap, ap₂, subst, arith, append_assoc}
use Rattle.std.specs.Prelude.{nat_eq, reverse, ◌/◌, ◌%◌}
use mathlib.Core.List.{reverse-cons}
use Rattle.std.proofs.lemmas.List.{reverse-append}
use Rattle.lola_bits.specs.Number.{number, bit_at}
use Rattle.lola_bits.specs.BitLists.{number_of}
use Rattle.lola_bits.proofs.BitLists.{half_more, lowest, number_is, number_lt, pow_more}
use Rattle.lola_bits.proofs.Places.{length_more}
use Rattle.lola_net.specs.Literals.{at_place, at_node, at_literal}
use Rattle.lola_lower.specs.Sources.{bits_at}
use Rattle.lola_lower.specs.Cycles.{bits_down}

-- the highest bits are those of the half
halved : (x w : ℕ) → x / 2 ^ suc w ≡ x / 2 / 2 ^ w
halved x w = ap (λ n. n / 2 ^ suc w) (sym (lowest x)) ∙ half_more (nat_eq (x % 2) 1) (x / 2) w

pub bits_low : (w x : ℕ) → bits_down (suc w) x ≡ bits_down w (x / 2) ++ nat_eq (bit_at x 0) 1 ∷ []
bits_low zero x = refl
bits_low (suc w) x = ap₂ (λ n (bs : List Bool). nat_eq (n % 2) 1 ∷ bs) (halved x w) (bits_low w x)

-- the bits of a number from the highest down are those that make it, turned
bit_zero : (b : Bool) (n : ℕ) → nat_eq (bit_at (number b + 2 * n) 0) 1 ≡ b
bit_zero true n = let e : bit_at (1 + 2 * n) 0 ≡ 1 = omega arith in ap (λ k. nat_eq k 1) e
bit_zero false n = let e : bit_at (0 + 2 * n) 0 ≡ 0 = omega arith in ap (λ k. nat_eq k 1) e

half_of : (b : Bool) (n : ℕ) → (number b + 2 * n) / 2 ≡ n
half_of b n = let h = number_lt b in omega arith

pub reverse_down : (bs : List Bool) → reverse bs ≡ bits_down (length bs) (number_of bs)
reverse_down [] = refl
reverse_down (b ∷ bs) =
    reverse-cons b bs ∙ ap (λ (l : List Bool). l ++ b ∷ []) (reverse_down bs)
    ∙ sym (bits_low (length bs) (number b + 2 * number_of bs) ∙ ap₂ (λ n c. bits_down (length bs) n ++ c ∷ []) (half_of b (number_of bs)) (bit_zero b (number_of bs)))

pub down_long : (w x : ℕ) → length (bits_down w x) ≡ w
down_long zero x = refl
down_long (suc w) x = ap suc (down_long w x)

reverse_last : {X : Type 0} (xs : List X) (x : X) → reverse (xs ++ x ∷ []) ≡ x ∷ reverse xs
reverse_last xs x = reverse-append xs (x ∷ [])

pub number_down : (w x : ℕ) → x < 2 ^ w → number_of (reverse (bits_down w x)) ≡ x
number_down zero x small = omega arith
number_down (suc w) x small =
    ap (λ (l : List Bool). number_of (reverse l)) (bits_low w x) ∙ ap number_of (reverse_last (bits_down w (x / 2)) (nat_eq (bit_at x 0) 1))
    ∙ ap (λ n. number (nat_eq (bit_at x 0) 1) + 2 * n) (number_down w (x / 2) (let p = pow_more w in omega arith))
    ∙ (let e : bit_at x 0 ≡ x % 2 = omega arith in ap (λ n. number (nat_eq n 1) + 2 * (x / 2)) e ∙ lowest x)

-- the first node of a vector has its highest bit
bits_front : (first w : ℕ) → bits_at first (suc w) ≡ bits_at (suc first) w ++ 2 * first ∷ []
bits_front first zero = ap (λ n. 2 * n ∷ []) (let e : first + 0 ≡ first = omega arith in e)
bits_front first (suc w) = ap₂ (λ n (l : List ℕ). 2 * n ∷ l) (let e : first + suc w ≡ suc first + w = omega arith in e) (bits_front first w)

map_both : {X Y : Type 0} (f : X → Y) (xs ys : List X) → map f (xs ++ ys) ≡ map f xs ++ map f ys
map_both f [] ys = refl
map_both f (x ∷ xs) ys = ap (λ l. f x ∷ l) (map_both f xs ys)

place_front : (front behind : List Bool) (b : Bool) → at_place (front ++ b ∷ behind) (length front) ≡ b
place_front [] behind b = refl
place_front (x ∷ front) behind b = place_front front behind b

even : (V : List Bool) (n : ℕ) → at_literal V (2 * n) ≡ at_node V n
even V n =
    let z : 2 * n % 2 ≡ 0 = omega arith in
    let h : 2 * n / 2 ≡ n = omega arith in
    ap₂ (λ m k. cond (nat_eq m 0) (at_node V k) (not (at_node V k))) z h

pub literals_are : (front bits behind : List Bool) → map (at_literal (front ++ (bits ++ behind))) (bits_at (suc (length front)) (length bits)) ≡ reverse bits
literals_are front [] behind = refl
literals_are front (b ∷ bits) behind =
    let V : List Bool = front ++ (b ∷ bits ++ behind) in
    ap (map (at_literal V)) (bits_front (suc (length front)) (length bits))
    ∙ map_both (at_literal V) (bits_at (suc (suc (length front))) (length bits)) (2 * suc (length front) ∷ [])
    ∙ ap₂ (λ (l : List Bool) c. l ++ c ∷ [])
    (ap₂ (λ (W : List Bool) n. map (at_literal W) (bits_at (suc n) (length bits))) (sym (append_assoc front (b ∷ []) (bits ++ behind))) (sym (length_more front b)) ∙ literals_are (front ++ b ∷ []) bits behind)
    (even V (suc (length front)) ∙ place_front front (bits ++ behind) b)
    ∙ sym (reverse-cons b bits)
