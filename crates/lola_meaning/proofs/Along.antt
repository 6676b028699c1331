-- What each equation hands on to its signal from those that it reads, all have: along the order of equations.
use Rattle.std.proofs.Common.{◌≡◌, ℕ, List, [], ◌∷◌, ◌++◌, map, refl, sym, subst, inl, inr, append_assoc, append-nil}
use Rattle.lola_bits.specs.Lists.{IsIn}
use Rattle.lola_bits.proofs.Lists.{but_last, to_map}
use Rattle.lola_tree.specs.Tree.{SourceTree}
use Rattle.lola_tree.specs.Value.{Path, Values}
use Rattle.lola_tree.specs.design.Signals.{signal_paths}
use Rattle.lola_tree.specs.design.Equations.{Equation}
use Rattle.lola_tree.specs.design.Chains.{right_paths, flat_equations}
use Rattle.lola_order.specs.Graph.{Uses, IsWanted, IsUse, ArePlaced, IsOrder}
use Rattle.lola_design.specs.Graph.{number_of, design_graph}
use Rattle.lola_design.specs.Regular.{IsRegular}
use Rattle.lola_design.proofs.Graphs.{entry_of}
use Rattle.lola_design.proofs.Derived.{fixed, are_equations}

module _ (S : SourceTree) (is : IsRegular S) (order : List ℕ) (ordered : IsOrder (design_graph S) order) (P : Path → Type 0)
    (step : (e : Equation) → IsIn e (flat_equations S) → ((d : Equation) → IsIn d (flat_equations S) → IsIn d.left (right_paths e.right) → P d.left) → P e.left) where
  -- any values will do
  abbrev zero : Values
  zero = λ x n. 0

  uses_of : (e : Equation) → IsIn e (flat_equations S) → Uses (design_graph S) (number_of (signal_paths S) e.left) (map (number_of (signal_paths S)) (right_paths e.right))
  uses_of e there = entry_of (flat_equations S) (fixed S is zero zero) (signal_paths S) (are_equations S is zero zero) e there

  abbrev Holds_at : ℕ → Type 0
  Holds_at i = (e : Equation) → IsIn e (flat_equations S) → number_of (signal_paths S) e.left ≡ i → P e.left

  next_holds : (i : ℕ) (before : List ℕ) → ((j : ℕ) → IsUse (design_graph S) j i → IsWanted (design_graph S) j → IsIn j before) → ((j : ℕ) → IsIn j before → Holds_at j) → Holds_at i
  next_holds i before met so e there at = step e there (λ d d_there read.
      let j = number_of (signal_paths S) d.left in
      let used : IsUse (design_graph S) j i = record {
        uses = map (number_of (signal_paths S)) (right_paths e.right);
        equation = subst (λ (k : ℕ). Uses (design_graph S) k (map (number_of (signal_paths S)) (right_paths e.right))) at (uses_of e there);
        among = to_map (number_of (signal_paths S)) d.left (right_paths e.right) read;
      } in
      so j (met j used (record { uses = map (number_of (signal_paths S)) (right_paths d.right); equation = uses_of d d_there })) d d_there refl)

  placed_hold : (before xs : List ℕ) → ArePlaced (design_graph S) before xs → ((j : ℕ) → IsIn j before → Holds_at j) → (j : ℕ) → IsIn j (before ++ xs) → Holds_at j
  placed_hold before [] placed so j there = so j (subst (λ (l : List ℕ). IsIn j l) (append-nil before) there)
  placed_hold before (i ∷ xs) placed so j there =
      let here = next_holds i before placed.0.ready.met so in
      placed_hold (before ++ i ∷ []) xs placed.1 (λ k among. elim (but_last k i before among) [
        | inl same ↦ subst (λ (n : ℕ). Holds_at n) (sym same) here
        | inr early ↦ so k early
      ]) j (rw append_assoc there)

  pub along : (e : Equation) → IsIn e (flat_equations S) → P e.left
  along e there =
      let i = number_of (signal_paths S) e.left in
      placed_hold [] order ordered.placed (λ j none. absurd none) i (ordered.all i (record { uses = map (number_of (signal_paths S)) (right_paths e.right); equation = uses_of e there })) e there refl
