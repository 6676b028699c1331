use Rattle.std.proofs.Common.{◌≤◌, drop}
use Rattle.std.specs.BTreeMap.{get_by_text}
use Rattle.lola_tree.specs.Tree.{parts_tree}
use Rattle.lola_elab.specs.Meanings.{ArePartsFlat}
use Rattle.lola_elab.proofs.flatten.+flat.Given as goal

-- the parts behind, together
abbrev pub invariant-concat_flat-loop-left : goal.invariant-concat_flat-loop-left
invariant-concat_flat-loop-left l = record {
  flat : ArePartsFlat (get_by_text l.names) (parts_tree (drop l.left l.parts)) l.behind.flat l.behind.width;
  at_most : l.behind.width ≤ 128;
}
