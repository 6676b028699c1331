-- What was made of a text: a source, a design of it, and a claim.
use Rattle.std.specs.Prelude.{ℕ, List}
use Rattle.lola_tree.specs.Tree.{SourceTree}
use Rattle.lola_scan.specs.declared.token.Token.{Token}
use Rattle.lola_scan.specs.Tokens.{Spells}
use Rattle.lola_parse.specs.declared.symbol.Language.TheVariants as language
use Rattle.lola_parse.specs.Symbols.{items_of}
use Rattle.lola_parse.specs.Design.{SpellsSource}
use Rattle.lola_elab.specs.declared.design.Design.{Design}
use Rattle.lola_elab.specs.Elaborated.{Elaborates}
use Rattle.small_tree.specs.Table.{TableTree}
use Rattle.lola_app.specs.declared.claim.Claim.{Claim}
use Rattle.lola_app.specs.Accepts.{Accepts, IsSpelled}
use Rattle.lola_app.specs.Claiming.{IsClaimOf}

-- the source that the bytes spell
pub record IsSourceOf (bytes : List ℕ) (S : SourceTree) : Type 0 where
  pub tokens : List Token
  pub spells : Spells 0 bytes tokens
  pub spelled : SpellsSource (items_of language.Design bytes tokens) S

-- a design of the source that the bytes spell
pub record IsDesignOf (bytes : List ℕ) (design : Design) : Type 0 where
  pub S : SourceTree
  pub accepts : Accepts bytes S
  pub elaborated : Elaborates S design

-- a claim of the table that the bytes spell
pub record IsTableOf (bytes : List ℕ) (claim : Claim) : Type 0 where
  pub T : TableTree
  pub spelled : IsSpelled bytes T
  pub claims : IsClaimOf T claim
