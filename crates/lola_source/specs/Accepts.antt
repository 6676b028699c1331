-- Which bytes spell a source that is accepted, and what was read of it.
use Rattle.std.specs.Prelude.{ℕ, ◌≤◌, List}
use Rattle.lola_tree.specs.Tree.{SourceTree, source_tree}
use Rattle.lola_tree.specs.design.Signals.{height, size}
use Rattle.lola_tree.specs.design.Chains.{HasLoop}
use Rattle.lola_scan.specs.declared.token.Token.{Token}
use Rattle.lola_scan.specs.Tokens.{Spells}
use Rattle.lola_parse.specs.declared.symbol.Language.TheVariants.{Design}
use Rattle.lola_parse.specs.Symbols.{items_of}
use Rattle.lola_parse.specs.Design.{SpellsSource}
use Rattle.lola_width.specs.Sized.{IsWellSized}
use Rattle.lola_flat.specs.Tree.{flat_tree}
use Rattle.lola_unfold.specs.Flat.{IsElaborated}
use Rattle.lola_source.specs.declared.reading.Accepted.{Accepted}

-- the bytes spell tokens, which spell the source
pub record IsSourceOf (bytes : List ℕ) (S : SourceTree) : Type 0 where
  pub tokens : List Token
  pub spells : Spells 0 bytes tokens
  pub spelled : SpellsSource (items_of Design bytes tokens) S

-- they spell the source; it is well sized; its modules stand at most 64 deep; its signals, each element of an array
-- counted, and its instances are at most 65,536; and no closed chain goes through its equations
pub record Accepts (bytes : List ℕ) (S : SourceTree) : Type 0 where
  pub source : IsSourceOf bytes S
  pub sized : IsWellSized S
  pub shallow : height S ≤ 64
  pub few : size S ≤ 65536
  pub open_chains : HasLoop S → ⊥

-- what was read is the source that the bytes spell, which is accepted, with its flat design
pub record IsReadOf (bytes : List ℕ) (read : Accepted) : Type 0 where
  pub accepts : Accepts bytes (source_tree read.source)
  pub elaborated : IsElaborated (source_tree read.source) (flat_tree read.flat)
