-- The names of the modules of a well sized source come once.
use Rattle.std.proofs.Common.{List, [], ◌∷◌}
use Rattle.lola_tree.specs.Tree.{ModuleTree}
use Rattle.lola_design.specs.Once.{AllOnce}
use Rattle.lola_regular.proofs.Clean.{AllClean}
use Rattle.lola_regular.proofs.Named.{names_once}

pub all_once : (ms : List ModuleTree) → AllClean ms → AllOnce ms
all_once [] clean = tt
all_once (m ∷ earlier) clean = (names_once m clean.0.doubled, all_once earlier clean.1)
