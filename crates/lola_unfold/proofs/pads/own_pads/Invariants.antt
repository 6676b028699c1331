use Rattle.std.proofs.Common.{◌≡◌, ℕ, List, [], ◌∷◌, drop}
use Rattle.lola_unfold.specs.Slots.{number_from}
use Rattle.lola_unfold.specs.Tables.{pads_found, no_pads, pads_with_all, own_numbers}
use Rattle.lola_unfold.proofs.pads.own_pads.Given as goal

abbrev pub invariant-loop-port : goal.invariant-loop-port
invariant-loop-port l = record {
  found :
      pads_with_all (pads_found l.pads) (own_numbers (λ (name : List ℕ). number_from l.base (name ∷ [])) (drop l.port-index l.ports))
      ≡ pads_with_all no_pads (own_numbers (λ (name : List ℕ). number_from l.base (name ∷ [])) l.ports);
  none : l.pads.none ≡ l.base.none;
}
