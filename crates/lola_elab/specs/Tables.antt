-- Names that are entered one after another.
use Rattle.std.specs.Prelude.{ℕ, suc, if◌then◌else◌, bytes_eq, List, [], ◌∷◌, Option, Some}
use Rattle.lola_elab.specs.declared.meaning.Meaning.{Meaning}
use Rattle.lola_elab.specs.declared.meaning.Meaning.TheVariants as meaning
use Rattle.lola_elab.specs.Declares.{Sized}

-- what a name stands for after some names are entered: the last of its entries counts
abbrev pub updated : {X : Type 0} → List (List ℕ × X) → List ℕ → Option X → Option X
updated [] q m = m
updated (e ∷ es) q m = updated es q (if bytes_eq e.0 q then Some e.1 else m)

-- vectors as leaves, numbered from some number on
abbrev pub leaf_entries : ℕ → List Sized → List (List ℕ × Meaning)
leaf_entries n [] = []
leaf_entries n (v ∷ vs) = (v.0, meaning.Leaf n v.1) ∷ leaf_entries (suc n) vs
