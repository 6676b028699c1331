-- What is read again.
use Rattle.std.specs.Prelude.{◌≡◌, ℕ, ◌≤◌, List, length}
use Rattle.lola_tree.specs.Tree.{Tree, SourceTree}
use Rattle.lola_tree.specs.Places.{placeless, placeless_source}
use Rattle.lola_scan.specs.declared.token.Token.{Token}
use Rattle.lola_scan.specs.Tokens.{Spells}
use Rattle.lola_parse.specs.declared.symbol.Language.TheVariants.{Design}
use Rattle.lola_parse.specs.Symbols.{items_of}
use Rattle.lola_parse.specs.Design.{SpellsSource, Reads}

-- a text spells this design, up to places
pub record IsDesignAgain (text : List ℕ) (S : SourceTree) : Type 0 where
  pub tokens : List Token
  pub spells : Spells 0 text tokens
  pub again : SourceTree
  pub spelled : SpellsSource (items_of Design text tokens) again
  pub same : placeless_source again ≡ placeless_source S

-- a text is this expression, up to places, with so many tokens at most
pub record IsExpressionAgain (text : List ℕ) (e : Tree) (most : ℕ) : Type 0 where
  pub tokens : List Token
  pub spells : Spells 0 text tokens
  pub few : length tokens ≤ most
  pub again : Tree
  pub reads : Reads Design text tokens 0 again (length tokens)
  pub same : placeless again ≡ placeless e
