use Rattle.std.proofs.Common.{◌≤◌, length, List, map}
use Rattle.lola_parse.specs.Symbols.{Item}
use Rattle.lola_tree.specs.Tree.{StmtTree, stmt_tree}
use Rattle.lola_parse.specs.Design.{MoreStatements, Body}
use Rattle.lola_parse.specs.declared.symbol.Symbol.TheVariants as s
use Rattle.lola_parse.specs.MayEnd.{Before}
use Rattle.lola_parse.proofs.statement.body.Given as goal

-- what goes on with the statements so far completes the body
abbrev pub invariant-body : goal.invariant-body
invariant-body l = record {
  shorter : length l.behind ≤ length l.fn.here;
  whole : (body : List StmtTree) (rest : List Item) → Body l.fn.here body rest → Before s.End rest → MoreStatements (map stmt_tree l.body.items) l.behind body rest;
  reads : (body : List StmtTree) (rest : List Item) → MoreStatements (map stmt_tree l.body.items) l.behind body rest → Body l.fn.here body rest;
}

abbrev pub decreases-body : goal.decreases-body
decreases-body l = length l.behind
