-- The stages at which the text of a source may be refused, in their order: what is at fault at an earlier stage is
-- answered before what is at fault at a later one.
--     scanning   the bytes spell tokens
--     grammar    these spell a source
--     sizes      it is well sized
--     depth      its modules stand at most 64 deep
--     count      its signals and instances are at most 65,536
--     chains     no closed chain goes through its equations
use Rattle.std.specs.Prelude.{ℕ, ◌≤◌, ◌<◌, List}
use Rattle.lola_tree.specs.Tree.{SourceTree}
use Rattle.lola_tree.specs.design.Signals.{height, size}
use Rattle.lola_tree.specs.design.Chains.{HasLoop}
use Rattle.lola_scan.specs.declared.token.Token.{Token}
use Rattle.lola_scan.specs.Tokens.{Spells}
use Rattle.lola_width.specs.Sized.{IsWellSized}
use Rattle.lola_source.specs.Accepts.{IsSourceOf}

pub data Stage : Type 0 where
  scanning : Stage
  grammar : Stage
  sizes : Stage
  depth : Stage
  count : Stage
  chains : Stage

-- their numbers in that order
abbrev pub place_of : Stage → ℕ
place_of scanning = 0
place_of grammar = 1
place_of sizes = 2
place_of depth = 3
place_of count = 4
place_of chains = 5

-- a text passes a stage: what is asked there holds of it, or of the source that it spells
abbrev pub Passes : List ℕ → Stage → Type 0
Passes bytes scanning = (tokens : List Token) × Spells 0 bytes tokens
Passes bytes grammar = (S : SourceTree) × IsSourceOf bytes S
Passes bytes sizes = (S : SourceTree) × (IsSourceOf bytes S × IsWellSized S)
Passes bytes depth = (S : SourceTree) × (IsSourceOf bytes S × (height S ≤ 64))
Passes bytes count = (S : SourceTree) × (IsSourceOf bytes S × (size S ≤ 65536))
Passes bytes chains = (S : SourceTree) × (IsSourceOf bytes S × (HasLoop S → ⊥))

-- it passes all stages before one
abbrev pub IsReached : List ℕ → Stage → Type 0
IsReached bytes stage = (earlier : Stage) → place_of earlier < place_of stage → Passes bytes earlier
