-- What a loop over held nodes keeps that computes values.
use Rattle.std.specs.Prelude.{◌≡◌, ℕ, suc, ◌≤◌, Bool, true, List, length, map, drop}
use Rattle.lola_net.specs.declared.node.Node.{Node}
use Rattle.lola_net.specs.Equations.{ordered_from}
use Rattle.lola_gate.specs.declared.other.Other.{Other}
use Rattle.lola_gate.specs.Gates.{frees_from, frees, values_from, values}
use Rattle.lola_gate.specs.Held.{nodes_of}

-- so many values are made, so many bits are used, and the rest of the nodes makes the values of all
pub record Evaluated (d : List Node) (held : List (ℕ × ℕ)) (free all : List Bool) (i at : ℕ) : Type 0 where
  pub others : List Other
  pub long : length all ≡ i
  pub used : at ≤ length free
  pub ordered : ordered_from (suc i) (nodes_of others (drop i held)) ≡ true
  pub enough : length (drop at free) ≡ length (frees_from (suc i) (nodes_of others (drop i held)))
  pub goes_on : (v : ℕ → Bool) → map v (frees d) ≡ free →
      (values_from v all (nodes_of others (drop i held)) ≡ values v d) × (map v (frees_from (suc i) (nodes_of others (drop i held))) ≡ drop at free)
