-- The one reading of a text, against what was read.
use Rattle.std.proofs.Common.{◌≡◌, ◌≢◌, ℕ, List, refl, subst}
use Rattle.lola_tree.specs.Tree.{SourceTree}
use Rattle.lola_scan.specs.declared.token.Token.{Token}
use Rattle.lola_scan.specs.declared.token.ScanError.{ScanError}
use Rattle.lola_scan.specs.declared.token.ScanError.TheVariants as scan
use Rattle.lola_scan.specs.Tokens.{Spells, Scanned, HasOneReading}
use Rattle.std.specs.Prelude.{Err}
use Rattle.lola_parse.specs.declared.symbol.Language.TheVariants.{Design, Table}
use Rattle.lola_parse.specs.Symbols.{Item, items_of}
use Rattle.lola_parse.specs.Design.{SpellsSource}
use Rattle.lola_elab.specs.Small.{IsSmallSource}
use Rattle.small_tree.specs.Table.{TableTree}
use Rattle.small_read.specs.Grammar.{SpellsTable}
use Rattle.lola_app.specs.Accepts.{Accepts, IsSpelled}

-- a fault but want of memory is a fault of the text, so it spells nothing
pub no_tokens : {V : Type 0} (text : List ℕ) (items : V → List Token) (fault : ScanError) → HasOneReading text → Scanned {V = V} text items (Err fault) → fault ≢ scan.Memory → (tokens : List Token) → Spells 0 text tokens → ⊥
no_tokens text items scan.Memory one scanned other tokens spells = other refl
no_tokens text items (scan.BadByte at) one scanned other tokens spells = one.never_both tokens (scan.BadByte at) spells scanned
no_tokens text items (scan.NumberTooLarge at) one scanned other tokens spells = one.never_both tokens (scan.NumberTooLarge at) spells scanned
no_tokens text items (scan.OpenComment at) one scanned other tokens spells = one.never_both tokens (scan.OpenComment at) spells scanned

-- the tokens of an accepted text are those that were read, and so is its tree
pub source_of : (text : List ℕ) (tokens : List Token) (S : SourceTree) → HasOneReading text → Spells 0 text tokens → Accepts text S → SpellsSource (items_of Design text tokens) S
source_of text tokens S one spells accepts = subst (λ ts. SpellsSource (items_of Design text ts) S) (one.one_list accepts.tokens tokens accepts.spells spells) accepts.source

pub small_of : (text : List ℕ) (tokens : List Token) (S R : SourceTree) → HasOneReading text → ((all : List Item) (t u : SourceTree) → SpellsSource all t → SpellsSource all u → t ≡ u) →
    Spells 0 text tokens → SpellsSource (items_of Design text tokens) R → Accepts text S → IsSmallSource R
small_of text tokens S R one tree spells read accepts =
    subst IsSmallSource (tree (items_of Design text tokens) S R (source_of text tokens S one spells accepts) read) accepts.small

pub table_of : (text : List ℕ) (tokens : List Token) (T : TableTree) → HasOneReading text → Spells 0 text tokens → IsSpelled text T → SpellsTable (items_of Table text tokens) T
table_of text tokens T one spells told = subst (λ ts. SpellsTable (items_of Table text ts) T) (one.one_list told.tokens tokens told.spells spells) told.table
