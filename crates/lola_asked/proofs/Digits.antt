-- The bits of places and of numbers: what they are in a case, how many, and that places are small.
use Rattle.std.proofs.Common.{◌≡◌, ℕ, zero, suc, ◌+◌, ◌-◌, ◌*◌, ◌/◌, ◌%◌, ◌^◌, ◌<◌, ◌≤◌, Bool, List, [], ◌∷◌, ◌++◌, length, map, refl, sym, ap, ◌∙◌, append_assoc, append-nil, arith, shr-shr}
use Rattle.std.specs.Prelude.{nat_eq}
use Rattle.std.specs.List.{AllByRecursion}
use Rattle.lola_bits.specs.Number.{number}
use Rattle.lola_bits.proofs.BitLists.{mod_more, lowest, pow_more}
use Rattle.lola_lanes.specs.Lanes.{digit}
use Rattle.lola_asked.specs.declared.bits.CaseBit.{CaseBit}
use Rattle.lola_asked.specs.declared.bits.CaseBit.TheVariants.{Place, Fixed}
use Rattle.lola_asked.specs.CaseBits.{bit_in, number_in_case, IsSmall, place_bits, fixed_bits}

none_left : (x : ℕ) → x % 2 ^ 0 ≡ 0
none_left x = omega arith

pub place_number : (c w p : ℕ) → number_in_case c (place_bits w p) ≡ c / 2 ^ p % 2 ^ w
place_number c zero p = sym (none_left (c / 2 ^ p))
place_number c (suc w) p =
    ap (λ (y : ℕ). number (digit p c) + 2 * y) (place_number c w (p + 1) ∙ ap (λ (h : ℕ). h % 2 ^ w) (sym (shr-shr c p 1)))
    ∙ (sym (mod_more (digit p c) (c / 2 ^ p / 2) w) ∙ ap (λ (z : ℕ). z % 2 ^ suc w) (lowest (c / 2 ^ p)))

pub fixed_number : (c w n : ℕ) → n < 2 ^ w → number_in_case c (fixed_bits w n) ≡ n
fixed_number c zero n below = omega arith
fixed_number c (suc w) n below =
    let p = pow_more w in
    ap (λ (y : ℕ). number (nat_eq (n % 2) 1) + 2 * y) (fixed_number c w (n / 2) (omega (arith, p, below))) ∙ lowest n

pub place_long : (w p : ℕ) → length (place_bits w p) ≡ w
place_long zero p = refl
place_long (suc w) p = ap suc (place_long w (p + 1))

pub fixed_long : (w n : ℕ) → length (fixed_bits w n) ≡ w
fixed_long zero n = refl
fixed_long (suc w) n = ap suc (fixed_long w (n / 2))

pub place_small : (w p : ℕ) → p + w ≤ 64 → AllByRecursion IsSmall (place_bits w p)
place_small zero p few = tt
place_small (suc w) p few = (let h : p < 64 = omega arith in h, place_small w (p + 1) (omega arith))

pub fixed_small : (w n : ℕ) → AllByRecursion IsSmall (fixed_bits w n)
fixed_small zero n = tt
fixed_small (suc w) n = (tt, fixed_small w (n / 2))

-- one more bit of places, and of a number
pub place_more : (w p at : ℕ) (before now all : List CaseBit) → at < w → now ≡ before ++ Place (p + at) ∷ [] → before ++ place_bits (w - at) (p + at) ≡ all → now ++ place_bits (w - (at + 1)) (p + (at + 1)) ≡ all
place_more w p at before now all within pushed so =
    let more : w - at ≡ suc (w - (at + 1)) = omega arith in
    let next : p + at + 1 ≡ p + (at + 1) = omega arith in
    let opened : place_bits (w - at) (p + at) ≡ Place (p + at) ∷ place_bits (w - (at + 1)) (p + (at + 1)) =
    ap (λ (n : ℕ). place_bits n (p + at)) more ∙ ap (λ (q : ℕ). Place (p + at) ∷ place_bits (w - (at + 1)) q) next in
    ap (λ (l : List CaseBit). l ++ place_bits (w - (at + 1)) (p + (at + 1))) pushed
    ∙ (append_assoc before (Place (p + at) ∷ []) (place_bits (w - (at + 1)) (p + (at + 1))) ∙ (ap (λ (l : List CaseBit). before ++ l) (sym opened) ∙ so))

pub place_done : (w p at q : ℕ) (bits all : List CaseBit) → w ≤ at → bits ++ place_bits (w - at) q ≡ all → bits ≡ all
place_done w p at q bits all past so =
    let none : w - at ≡ 0 = omega arith in
    sym (append-nil bits) ∙ (ap (λ (n : ℕ). bits ++ place_bits n q) (sym none) ∙ so)

pub fixed_more : (w at rest : ℕ) (before now all : List CaseBit) → at < w → now ≡ before ++ Fixed (nat_eq (rest % 2) 1) ∷ [] → before ++ fixed_bits (w - at) rest ≡ all → now ++ fixed_bits (w - (at + 1)) (rest / 2) ≡ all
fixed_more w at rest before now all within pushed so =
    let more : w - at ≡ suc (w - (at + 1)) = omega arith in
    ap (λ (l : List CaseBit). l ++ fixed_bits (w - (at + 1)) (rest / 2)) pushed
    ∙ (append_assoc before (Fixed (nat_eq (rest % 2) 1) ∷ []) (fixed_bits (w - (at + 1)) (rest / 2)) ∙ (ap (λ (n : ℕ). before ++ fixed_bits n rest) (sym more) ∙ so))

pub fixed_done : (w at rest : ℕ) (bits all : List CaseBit) → w ≤ at → bits ++ fixed_bits (w - at) rest ≡ all → bits ≡ all
fixed_done w at rest bits all past so =
    let none : w - at ≡ 0 = omega arith in
    sym (append-nil bits) ∙ (ap (λ (n : ℕ). bits ++ fixed_bits n rest) (sym none) ∙ so)
