use Rattle.lola_tree.specs.Tree.{source_tree}
use Rattle.lola_unfolds.proofs.answer.elaborated.Goals as goal

-- a well sized source declares no name of a module twice
pub elaborate-requires : goal.elaborate-requires
elaborate-requires c = c.names_are_once.ensures (source_tree c.in_ok-source.source) c.in-Ok.ensures.ok
