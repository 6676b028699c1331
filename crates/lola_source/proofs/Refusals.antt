-- What is said of a text of which no source is read, against what was found in it.
use Rattle.std.proofs.Common.{◌≢◌, ℕ, List}
use Rattle.std.specs.Prelude.{Err}
use Rattle.lola_tree.specs.Tree.{SourceTree}
use Rattle.lola_tree.specs.design.Signals.{signal_paths}
use Rattle.lola_scan.specs.declared.token.Token.{Token}
use Rattle.lola_scan.specs.declared.token.ScanError.{ScanError}
use Rattle.lola_scan.specs.declared.token.ScanError.TheVariants as scan
use Rattle.lola_scan.specs.Tokens.{Scanned}
use Rattle.lola_parse.specs.declared.parser.ParseError.{ParseError}
use Rattle.lola_parse.specs.declared.parser.ParseError.TheVariants as parse
use Rattle.lola_parse.specs.declared.symbol.Language.TheVariants.{Design}
use Rattle.lola_parse.specs.Symbols.{items_of}
use Rattle.lola_parse.specs.Long.{IsTooLong, LongSays}
use Rattle.lola_width.specs.declared.fault.SourceFault.{SourceFault as SizeFault}
use Rattle.lola_width.specs.declared.fault.SourceFault.TheVariants as size_fault
use Rattle.lola_width.specs.Sized.{IsWellSized}
use Rattle.lola_design.specs.Graph.{paths_at}
use Rattle.lola_design.specs.Regular.{IsRegular}
use Rattle.lola_unfold.specs.declared.unfolding.ElabError.{ElabError}
use Rattle.lola_unfold.specs.declared.unfolding.ElabError.TheVariants as elab
use Rattle.lola_unfold.specs.Finished.{Answers}
use Rattle.lola_source.specs.Accepts.{IsSourceOf}
use Rattle.lola_source.specs.Refused.{HasNoTree, HasSizeFault, HasRefusal, scan_refusal, parse_refusal, size_refusal, elab_refusal}

-- a fault of the scanner is the text's first
pub scan_refused : {V : Type 0} (text : List ℕ) (items : V → List Token) (error : ScanError) → Scanned {V = V} text items (Err error) → HasRefusal text (scan_refusal error)
scan_refused text items (scan.BadByte at) is = is
scan_refused text items (scan.NumberTooLarge at) is = is
scan_refused text items (scan.OpenComment at) is = is
scan_refused text items scan.Memory is = tt

-- the parser's errors but want of memory come where the tokens spell no source, and Long also says where
pub parse_refused : (text : List ℕ) (error : ParseError) (no_tree : error ≢ parse.Memory → HasNoTree text) →
    ((other : error ≢ parse.Memory) → LongSays (IsTooLong Design (items_of Design text (no_tree other).tokens)) error) → HasRefusal text (parse_refusal error)
parse_refused text (parse.Syntax at) no_tree long = no_tree (λ e. cc)
parse_refused text (parse.Long at) no_tree long = record { no_tree = no_tree (λ e. cc); long = long (λ e. cc) }
parse_refused text parse.Memory no_tree long = tt

-- the first fault of a source that isn't well sized
pub size_refused : (text : List ℕ) (error : SizeFault) → (error ≢ size_fault.Memory → HasSizeFault text error) → HasRefusal text (size_refusal error)
size_refused text size_fault.Memory has = tt
size_refused text (size_fault.Doubled at name) has = has (λ e. cc)
size_refused text (size_fault.Unknown at name) has = has (λ e. cc)
size_refused text (size_fault.Kind at) has = has (λ e. cc)
size_refused text (size_fault.ArrayShape at name) has = has (λ e. cc)
size_refused text (size_fault.Clock at) has = has (λ e. cc)
size_refused text (size_fault.Width at left right) has = has (λ e. cc)
size_refused text (size_fault.TooWide at) has = has (λ e. cc)
size_refused text (size_fault.IndexRange at) has = has (λ e. cc)
size_refused text (size_fault.PortCount at) has = has (λ e. cc)
size_refused text (size_fault.NotAssigned at name) has = has (λ e. cc)
size_refused text (size_fault.AssignedTwice at name) has = has (λ e. cc)

-- why a well sized source has no flat design
pub elab_refused : (text : List ℕ) (S : SourceTree) (error : ElabError) → IsSourceOf text S → IsWellSized S → IsRegular S → Answers S (Err error) → HasRefusal text (elab_refusal error)
elab_refused text S (elab.TooDeep n) source sized regular is = record { S = S; source = source; sized = sized; deep = is.deep; is = is.is }
elab_refused text S elab.TooMany source sized regular is = record { S = S; source = source; sized = sized; shallow = is.flat; many = is.many }
elab_refused text S (elab.Loop names) source sized regular is = record {
  S = S;
  source = source;
  sized = sized;
  shallow = is.flat;
  few = is.few;
  paths = paths_at (signal_paths S) is.numbers;
  chain = is.closed regular;
  are = is.are;
}
elab_refused text S elab.Memory source sized regular is = tt
