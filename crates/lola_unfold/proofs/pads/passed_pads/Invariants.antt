use Rattle.std.proofs.Common.{◌≡◌, drop, map}
use Rattle.lola_tree.specs.Tree.{actual_tree}
use Rattle.lola_unfold.specs.Tables.{pads_found, no_pads, pads_with_all, pad_number, passed_numbers}
use Rattle.lola_unfold.proofs.pads.passed_pads.Given as goal

abbrev pub invariant-loop-at : goal.invariant-loop-at
invariant-loop-at l = record {
  found :
      pads_with_all (pads_found l.pads) (passed_numbers (pad_number l.outer) (drop l.at l.ports) (map actual_tree (drop l.at l.args)))
      ≡ pads_with_all no_pads (passed_numbers (pad_number l.outer) l.ports (map actual_tree l.args));
  none : l.pads.none ≡ l.outer.none;
}
