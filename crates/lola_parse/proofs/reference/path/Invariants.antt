use Rattle.std.proofs.Common.{◌<◌, length, List, ℕ}
use Rattle.lola_parse.specs.Symbols.{Item}
use Rattle.lola_parse.specs.Grammar.{Path}
use Rattle.lola_parse.specs.Behind.{PathBehind}
use Rattle.lola_parse.specs.MayEnd.{PathCloses}
use Rattle.lola_parse.specs.declared.symbol.Language.TheVariants.{Table}
use Rattle.lola_parse.proofs.reference.path.Given as goal

-- what goes on with the words so far is the path
abbrev pub invariant-words : goal.invariant-words
invariant-words l = record {
  shorter : length l.behind < length l.fn.here;
  whole : (path : List (List ℕ)) (rest : List Item) → PathBehind l.fn.here path rest → PathCloses Table rest → Path l.path.items l.behind path rest;
  reads : (path : List (List ℕ)) (rest : List Item) → Path l.path.items l.behind path rest → PathBehind l.fn.here path rest;
}

abbrev pub decreases-words : goal.decreases-words
decreases-words l = length l.behind
