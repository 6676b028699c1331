use Rattle.std.proofs.Common.{◌≤◌, length, List}
use Rattle.lola_parse.specs.Symbols.{Item}
use Rattle.lola_tree.specs.declared.module.Local.{Local}
use Rattle.lola_parse.specs.Design.{MoreVariables}
use Rattle.lola_parse.specs.MayEnd.{NoName}
use Rattle.lola_parse.proofs.module.variables.Given as goal

-- what goes on with the rows so far completes them
abbrev pub invariant-rows : goal.invariant-rows
invariant-rows l = record {
  shorter : length l.behind ≤ length l.fn.here;
  whole : (locals : List Local) (rest : List Item) → MoreVariables l.fn.locals.items l.fn.here locals rest → NoName rest → MoreVariables l.locals.items l.behind locals rest;
  reads : (locals : List Local) (rest : List Item) → MoreVariables l.locals.items l.behind locals rest → MoreVariables l.fn.locals.items l.fn.here locals rest;
}

abbrev pub decreases-rows : goal.decreases-rows
decreases-rows l = length l.behind
