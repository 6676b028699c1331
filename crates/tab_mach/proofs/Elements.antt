-- Elements of arrays by their numbers.
use Rattle.std.proofs.Common.{◌≡◌, ℕ, zero, suc, ◌<◌, ◌≤◌, List, [], ◌∷◌, length, get_or, refl, arith, subst}
use Rattle.std.specs.List.{AllByRecursion}
use Rattle.lola_bits.specs.declared.vector.Bits.{Bits}
use Rattle.lola_bits.specs.Vector.{FitsWidth}
use Rattle.tab_tree.specs.Names.{nth_number}
use Rattle.tab_mach.specs.Vectors.{IsElement}

pub number_is : (xs : List Bits) (n : ℕ) (d : Bits) → n < length xs → (get_or xs n d).value ≡ nth_number xs n
number_is [] n d within = absurd (omega arith)
number_is (y ∷ xs) zero d within = refl
number_is (y ∷ xs) (suc n) d within = number_is xs n d (omega arith)

pub behind_end : (xs : List Bits) (n : ℕ) → length xs ≤ n → 0 ≡ nth_number xs n
behind_end [] n behind = refl
behind_end (y ∷ xs) zero behind = absurd (omega arith)
behind_end (y ∷ xs) (suc n) behind = behind_end xs n (omega arith)

pub element_fits : (xs : List Bits) (n width : ℕ) → AllByRecursion (IsElement width) xs → FitsWidth width 0 → FitsWidth width (nth_number xs n)
element_fits [] n width all some = some
element_fits (y ∷ xs) zero width all some = subst (λ (w : ℕ). FitsWidth w y.value) all.0.1 all.0.0
element_fits (y ∷ xs) (suc n) width all some = element_fits xs n width all.1 some
