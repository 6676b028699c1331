use Rattle.std.proofs.Common.{◌≡◌, ◌++◌, drop, flat_map}
use Rattle.lola_flat.specs.Tree.{expr_trees}
use Rattle.lola_flat.specs.Value.{all_reads}
use Rattle.lola_unfold.specs.Flat.{vector_read}
use Rattle.lola_unfold.proofs.uses.+uses.Given as goal

abbrev pub invariant-add_all-loop-expr : goal.invariant-add_all-loop-expr
invariant-add_all-loop-expr l = l.uses ++ flat_map vector_read (all_reads (expr_trees (drop l.expr-index l.exprs))) ≡ l.fn.uses ++ flat_map vector_read (all_reads (expr_trees l.exprs))
