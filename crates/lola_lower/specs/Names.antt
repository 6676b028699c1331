-- The names of bits: the path of a signal, of an array the element, and the bit, with `_` between two.
use Rattle.std.specs.Prelude.{ℕ, zero, suc, List, [], ◌∷◌, ◌++◌, map, flat_map, codes, decimal, Option, Some, None}
use Rattle.lola_flat.specs.Numbers.{first_numbers}
use Rattle.lola_flat.specs.Tree.{ExprTree, SignalTree}

-- a path is its names with `_` between two
abbrev pub path_behind : List (List ℕ) → List ℕ
path_behind [] = []
path_behind (name ∷ path) = codes "_" ++ (name ++ path_behind path)

abbrev pub path_text : List (List ℕ) → List ℕ
path_text [] = []
path_text (name ∷ path) = name ++ path_behind path

-- behind that of an array stands the number of the element
abbrev pub element_text : Option ExprTree → ℕ → List ℕ
element_text None element = []
element_text (Some place) element = codes "_" ++ decimal element

-- what the names of an element's bits begin with
abbrev pub stem : SignalTree → ℕ → List ℕ
stem s element = path_text s.path ++ element_text s.place element

abbrev pub bit_name : List ℕ → ℕ → List ℕ
bit_name text bit = text ++ (codes "_" ++ decimal bit)

-- the names of so many bits, from the highest down to bit 0
abbrev pub names_down : List ℕ → ℕ → List (List ℕ)
names_down text zero = []
names_down text (suc bit) = bit_name text bit ∷ names_down text bit

-- the names of a signal's bits, its elements from 0 on
abbrev pub signal_names : SignalTree → List (List ℕ)
signal_names s = flat_map (λ (element : ℕ). names_down (stem s element) s.width) (first_numbers s.count)
