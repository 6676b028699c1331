use Rattle.std.proofs.Common.{◌<◌, length, List}
use Rattle.lola_parse.specs.Symbols.{Item}
use Rattle.lola_tree.specs.declared.module.Port.{Port}
use Rattle.lola_parse.specs.Design.{MoreGroups}
use Rattle.lola_parse.specs.Behind.{GroupsBehind}
use Rattle.lola_parse.specs.declared.symbol.Symbol.TheVariants as s
use Rattle.lola_parse.specs.MayEnd.{Before}
use Rattle.lola_parse.proofs.module.groups.Given as goal

-- what goes on with the groups so far completes them
abbrev pub invariant-groups : goal.invariant-groups
invariant-groups l = record {
  shorter : length l.behind < length l.fn.here;
  whole : (ports : List Port) (rest : List Item) → GroupsBehind l.fn.first l.fn.here ports rest → Before s.CloseParen rest →
      MoreGroups l.current l.ports.items l.behind ports rest;
  reads : (ports : List Port) (rest : List Item) → MoreGroups l.current l.ports.items l.behind ports rest → GroupsBehind l.fn.first l.fn.here ports rest;
}

abbrev pub decreases-groups : goal.decreases-groups
decreases-groups l = length l.behind
