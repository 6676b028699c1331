-- What an operator's steps make means its number, in every algebra.
use Rattle.std.proofs.Common.{◌≡◌, List, [], ◌∷◌, map, length, Some, sym, arith}
use Rattle.std.specs.List.{AllByRecursion}
use Rattle.lola_bits.specs.declared.op.Op.{Op}
use Rattle.lola_bits.specs.declared.op.Op.TheVariants as op
use Rattle.lola_alg.specs.Algebra.{Calls, Meaning, IsAlgebra}
use Rattle.lola_alg.specs.Steps.{op_step}
use Rattle.lola_alg.specs.Means.{Suits, AreKnown, MeansOp}
use Rattle.lola_alg.proofs.WordMeans.{not_means, and_means, or_means, xor_means, mux_means, sum_means, difference_means, equal_means, unequal_means, less_means, not_less_means}
use Rattle.lola_alg.proofs.ShiftMeans.{up_means, down_means, filled_means, turned_means}

pub op_means : {D B : Type 0} (c : Calls D B) (m : Meaning D B) → IsAlgebra c m → (o : Op) (args : List (List B)) (d : D) → Suits o (map length args) → AllByRecursion (AreKnown m d) args →
    (made : D × List B) → op_step c o args d ≡ Some made → MeansOp m o args d made
op_means c m law op.Not (x ∷ []) d suits known made e = not_means c m law x d made known.0 e
op_means c m law op.And (x ∷ y ∷ []) d suits known made e = and_means c m law x y d made suits.1 known.0 known.1.0 e
op_means c m law op.Or (x ∷ y ∷ []) d suits known made e = or_means c m law x y d made suits.1 known.0 known.1.0 e
op_means c m law op.Xor (x ∷ y ∷ []) d suits known made e = xor_means c m law x y d made suits.1 known.0 known.1.0 e
op_means c m law op.Add (x ∷ y ∷ []) d suits known made e = sum_means c m law x y d made suits.1 known.0 known.1.0 e
op_means c m law op.Sub (x ∷ y ∷ []) d suits known made e = difference_means c m law x y d made suits.1 known.0 known.1.0 e
op_means c m law op.Eq (x ∷ y ∷ []) d suits known made e = equal_means c m law x y d made suits.1 known.0 known.1.0 e
op_means c m law op.Ne (x ∷ y ∷ []) d suits known made e = unequal_means c m law x y d made suits.1 known.0 known.1.0 e
op_means c m law op.Lt (x ∷ y ∷ []) d suits known made e = less_means c m law x y d made suits.1 known.0 known.1.0 e
op_means c m law op.Ge (x ∷ y ∷ []) d suits known made e = not_less_means c m law x y d made suits.1 known.0 known.1.0 e
op_means c m law op.Gt (x ∷ y ∷ []) d suits known made e = less_means c m law y x d made (sym suits.1) known.1.0 known.0 e
op_means c m law op.Le (x ∷ y ∷ []) d suits known made e = not_less_means c m law y x d made (sym suits.1) known.1.0 known.0 e
op_means c m law op.Mux ([] ∷ x ∷ y ∷ []) d suits known made e = let h = suits.0 in absurd (omega arith)
op_means c m law op.Mux ((t ∷ []) ∷ x ∷ y ∷ []) d suits known made e = mux_means c m law t x y d made suits.1.1 known.0.0 known.1.0 known.1.1.0 e
op_means c m law op.Mux ((t ∷ u ∷ more) ∷ x ∷ y ∷ []) d suits known made e = let h = suits.0 in absurd (omega arith)
op_means c m law op.Shl (x ∷ y ∷ []) d suits known made e = up_means c m law x y d made suits.0.0 known.0 known.1.0 e
op_means c m law op.Shr (x ∷ y ∷ []) d suits known made e = down_means c m law x y d made suits.0.0 known.0 known.1.0 e
op_means c m law op.Asr (x ∷ y ∷ []) d suits known made e = filled_means c m law x y d made suits.0.0 known.0 known.1.0 e
op_means c m law op.Ror (x ∷ y ∷ []) d suits known made e = turned_means c m law x y d made suits.0.0 known.0 known.1.0 e
op_means c m law other args d suits known made e = absurd suits
