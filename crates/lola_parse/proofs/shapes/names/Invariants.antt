use Rattle.std.proofs.Common.{◌<◌, length, List}
use Rattle.lola_parse.specs.Symbols.{Item}
use Rattle.lola_tree.specs.declared.named.Named.{Named}
use Rattle.lola_parse.specs.Design.{MoreNames, NameList}
use Rattle.lola_parse.specs.declared.symbol.Symbol.TheVariants as s
use Rattle.lola_parse.specs.MayEnd.{Before}
use Rattle.lola_parse.proofs.shapes.names.Given as goal

-- what goes on with the names so far completes them
abbrev pub invariant-names : goal.invariant-names
invariant-names l = record {
  shorter : length l.behind < length l.fn.here;
  whole : (names : List Named) (rest : List Item) → NameList l.fn.here names rest → Before s.Colon rest → MoreNames l.names.items l.behind names rest;
  reads : (names : List Named) (rest : List Item) → MoreNames l.names.items l.behind names rest → NameList l.fn.here names rest;
}

abbrev pub decreases-names : goal.decreases-names
decreases-names l = length l.behind
