use Rattle.std.proofs.Common.{◌≤◌, length, List}
use Rattle.lola_parse.specs.Symbols.{Item}
use Rattle.lola_tree.specs.declared.module.Const.{Const}
use Rattle.lola_parse.specs.Design.{MoreConstants}
use Rattle.lola_parse.specs.MayEnd.{NoName}
use Rattle.lola_parse.proofs.module.constants.Given as goal

-- what goes on with the constants so far completes them
abbrev pub invariant-consts : goal.invariant-consts
invariant-consts l = record {
  shorter : length l.behind ≤ length l.fn.here;
  whole : (consts : List Const) (rest : List Item) → MoreConstants l.fn.consts.items l.fn.here consts rest → NoName rest → MoreConstants l.consts.items l.behind consts rest;
  reads : (consts : List Const) (rest : List Item) → MoreConstants l.consts.items l.behind consts rest → MoreConstants l.fn.consts.items l.fn.here consts rest;
}

abbrev pub decreases-consts : goal.decreases-consts
decreases-consts l = length l.behind
