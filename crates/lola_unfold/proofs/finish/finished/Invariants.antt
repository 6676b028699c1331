use Rattle.std.proofs.Common.{◌≡◌, ◌++◌, ◌+◌, map, length}
use Rattle.std.specs.Vec.Iter.{into_iter_items}
use Rattle.lola_flat.specs.Tree.{some_tree, signal_tree}
use Rattle.lola_unfold.specs.Pieces.{made_tree, some_next}
use Rattle.lola_unfold.specs.Finished.{signals_from}
use Rattle.lola_unfold.proofs.finish.finished.Given as goal

abbrev pub invariant-loop-number : goal.invariant-loop-number
invariant-loop-number l = record {
  rest : length (into_iter_items l.heads) + l._number ≡ l.count;
  made :
      map signal_tree l.signals.items ++ signals_from (into_iter_items l.heads) (map some_tree (into_iter_items l.equations)) (map some_next (into_iter_items l.nexts))
      ≡ signals_from (made_tree l.fn.made).heads (made_tree l.fn.made).equations (made_tree l.fn.made).nexts;
}
