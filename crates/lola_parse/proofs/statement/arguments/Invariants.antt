use Rattle.std.proofs.Common.{◌<◌, length, List, map}
use Rattle.lola_parse.specs.Symbols.{Item}
use Rattle.lola_tree.specs.Tree.{ActualTree, actual_tree}
use Rattle.lola_parse.specs.Design.{MoreArguments}
use Rattle.lola_parse.specs.Behind.{ArgumentsBehind}
use Rattle.lola_parse.specs.declared.symbol.Symbol.TheVariants as s
use Rattle.lola_parse.specs.MayEnd.{Before}
use Rattle.lola_parse.proofs.statement.arguments.Given as goal

-- what goes on with the arguments so far completes them
abbrev pub invariant-more : goal.invariant-more
invariant-more l = record {
  shorter : length l.behind < length l.fn.here;
  whole : (args : List ActualTree) (rest : List Item) → ArgumentsBehind l.fn.here args rest → Before s.CloseParen rest →
      MoreArguments (map actual_tree l.args.items) l.behind args rest;
  reads : (args : List ActualTree) (rest : List Item) → MoreArguments (map actual_tree l.args.items) l.behind args rest → ArgumentsBehind l.fn.here args rest;
}

abbrev pub decreases-more : goal.decreases-more
decreases-more l = length l.behind
