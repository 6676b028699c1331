-- What is said of a text that gives no design, against what was found in it.
use Rattle.std.proofs.Common.{◌≡◌, ◌≢◌, ℕ, List, refl}
use Rattle.std.specs.Prelude.{Err}
use Rattle.lola_scan.specs.declared.token.Token.{Token}
use Rattle.lola_scan.specs.declared.token.ScanError.{ScanError}
use Rattle.lola_scan.specs.declared.token.ScanError.TheVariants as scan
use Rattle.lola_scan.specs.Tokens.{Scanned}
use Rattle.lola_parse.specs.declared.parser.ParseError.{ParseError}
use Rattle.lola_parse.specs.declared.parser.ParseError.TheVariants as parse
use Rattle.lola_parse.specs.declared.symbol.Language.TheVariants.{Design}
use Rattle.lola_parse.specs.Symbols.{items_of}
use Rattle.lola_parse.specs.Long.{IsTooLong, LongSays}
use Rattle.lola_width.specs.declared.fault.SourceFault.{SourceFault as SizeFault}
use Rattle.lola_width.specs.declared.fault.SourceFault.TheVariants as size
use Rattle.lola_elab.specs.declared.fault.ElabError.{ElabError}
use Rattle.lola_elab.specs.declared.fault.ElabError.TheVariants as elab
use Rattle.lola_app.specs.Refused.{HasNoTree, HasSizeFault, IsOutside, HasRefusal, scan_refusal, parse_refusal, size_refusal, elab_refusal}

-- a fault of the scanner is the text's first
pub scan_refused : {V : Type 0} (text : List ℕ) (items : V → List Token) (error : ScanError) → Scanned {V = V} text items (Err error) → HasRefusal text (scan_refusal error)
scan_refused text items (scan.BadByte at) is = is
scan_refused text items (scan.NumberTooLarge at) is = is
scan_refused text items (scan.OpenComment at) is = is
scan_refused text items scan.Memory is = tt

-- the parser's errors but want of memory come where the tokens spell no design, and Long also says where
pub parse_refused : (text : List ℕ) (error : ParseError) (no_tree : error ≢ parse.Memory → HasNoTree text) →
    ((other : error ≢ parse.Memory) → LongSays (IsTooLong Design (items_of Design text (no_tree other).tokens)) error) → HasRefusal text (parse_refusal error)
parse_refused text (parse.Syntax at) no_tree long = no_tree (λ e. cc)
parse_refused text (parse.Long at) no_tree long = record { no_tree = no_tree (λ e. cc); long = long (λ e. cc) }
parse_refused text parse.Memory no_tree long = tt

-- the first fault of a tree that isn't well sized
pub size_refused : (text : List ℕ) (error : SizeFault) → (error ≢ size.Memory → HasSizeFault text error) → HasRefusal text (size_refusal error)
size_refused text size.Memory has = tt
size_refused text (size.Doubled at name) has = has (λ e. cc)
size_refused text (size.Unknown at name) has = has (λ e. cc)
size_refused text (size.Kind at) has = has (λ e. cc)
size_refused text (size.ArrayShape at name) has = has (λ e. cc)
size_refused text (size.Clock at) has = has (λ e. cc)
size_refused text (size.Width at left right) has = has (λ e. cc)
size_refused text (size.TooWide at) has = has (λ e. cc)
size_refused text (size.IndexRange at) has = has (λ e. cc)
size_refused text (size.PortCount at) has = has (λ e. cc)
size_refused text (size.NotAssigned at name) has = has (λ e. cc)
size_refused text (size.AssignedTwice at name) has = has (λ e. cc)

-- a tree that gives no design is outside the forms that are built
pub elab_refused : (text : List ℕ) (error : ElabError) → (error ≡ elab.NotBuilt → IsOutside text) → HasRefusal text (elab_refusal error)
elab_refused text elab.NotBuilt outside = outside refl
elab_refused text elab.Memory outside = tt
