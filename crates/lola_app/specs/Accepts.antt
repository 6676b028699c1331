-- Which bytes spell a design, and which a table that fits it. So far both are in the small form.
use Rattle.std.specs.Prelude.{ℕ, List}
use Rattle.lola_tree.specs.Tree.{ModuleTree, SourceTree}
use Rattle.lola_tree.specs.Cycle.{IsRoot}
use Rattle.lola_scan.specs.declared.token.Token.{Token}
use Rattle.lola_scan.specs.Tokens.{Spells}
use Rattle.lola_parse.specs.declared.symbol.Language.TheVariants.{Design, Table}
use Rattle.lola_parse.specs.Symbols.{items_of}
use Rattle.lola_parse.specs.Design.{SpellsSource}
use Rattle.lola_width.specs.Sized.{IsWellSized}
use Rattle.lola_elab.specs.Small.{IsSmallSource}
use Rattle.small_tree.specs.Table.{TableTree}
use Rattle.small_read.specs.Grammar.{SpellsTable}
use Rattle.lola_app.specs.Small.{interface_of, IsSmallTable}

-- the bytes spell tokens, which spell the source, and it is well sized and in the small form
pub record Accepts (bytes : List ℕ) (S : SourceTree) : Type 0 where
  pub tokens : List Token
  pub spells : Spells 0 bytes tokens
  pub source : SpellsSource (items_of Design bytes tokens) S
  pub sized : IsWellSized S
  pub small : IsSmallSource S

-- a table fits a design
pub record Fits (S : SourceTree) (T : TableTree) : Type 0 where
  pub root : ModuleTree
  pub is_root : IsRoot S root
  pub small : IsSmallTable (interface_of root) T

-- the bytes spell tokens, which spell the table
pub record IsSpelled (bytes : List ℕ) (T : TableTree) : Type 0 where
  pub tokens : List Token
  pub spells : Spells 0 bytes tokens
  pub table : SpellsTable (items_of Table bytes tokens) T

-- and it fits the design
pub record AcceptsTable (S : SourceTree) (bytes : List ℕ) (T : TableTree) : Type 0 where
  pub spelled : IsSpelled bytes T
  pub fits : Fits S T
