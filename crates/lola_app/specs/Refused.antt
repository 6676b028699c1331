-- When the text of a design is refused, and why.
use Rattle.std.specs.Prelude.{◌≡◌, ℕ, List, Some}
use Rattle.lola_tree.specs.Tree.{SourceTree}
use Rattle.lola_scan.specs.declared.token.Token.{Token}
use Rattle.lola_scan.specs.declared.token.ScanError.{ScanError}
use Rattle.lola_scan.specs.declared.token.ScanError.TheVariants as scan
use Rattle.lola_scan.specs.Tokens.{Spells, Fails}
use Rattle.lola_parse.specs.declared.parser.ParseError.{ParseError}
use Rattle.lola_parse.specs.declared.parser.ParseError.TheVariants as parse
use Rattle.lola_parse.specs.declared.symbol.Language.TheVariants.{Design}
use Rattle.lola_parse.specs.Symbols.{items_of}
use Rattle.lola_parse.specs.Design.{SpellsSource}
use Rattle.lola_parse.specs.Long.{IsTooLong}
use Rattle.lola_width.specs.declared.fault.SourceFault.{SourceFault as SizeFault}
use Rattle.lola_width.specs.declared.fault.SourceFault.TheVariants as size
use Rattle.lola_width.specs.Sized.{IsWellSized, first_fault}
use Rattle.lola_elab.specs.declared.fault.ElabError.{ElabError}
use Rattle.lola_elab.specs.declared.fault.ElabError.TheVariants as elab
use Rattle.lola_elab.specs.Built.{IsBuiltSource}
use Rattle.lola_app.specs.declared.fault.SourceFault.TheVariants.{BadByte, NumberTooLarge, OpenComment, Syntax, IllSized, NotBuilt}
use Rattle.lola_app.specs.declared.fault.SourceError.{SourceError}
use Rattle.lola_app.specs.declared.fault.SourceError.TheVariants.{Refused, Memory}
use Rattle.lola_app.specs.declared.fault.SourceRefusal.{SourceRefusal}
use Rattle.lola_app.specs.declared.fault.SourceRefusal.TheVariants.{Fault, Long}
use Rattle.lola_app.specs.Stages as stage
use Rattle.lola_app.specs.Stages.{Stage}

-- the text spells tokens, and they spell no design with at most 512 tokens in each outermost expression
pub record HasNoTree (source : List ℕ) : Type 0 where
  pub tokens : List Token
  pub spells : Spells 0 source tokens
  pub none : (S : SourceTree) → SpellsSource (items_of Design source tokens) S → ⊥

-- they spell none, and somewhere among them stand 513 with which some expression begins, the last of them
-- at this place
pub record HasLongExpression (source : List ℕ) (at : ℕ) : Type 0 where
  pub no_tree : HasNoTree source
  pub long : IsTooLong Design (items_of Design source no_tree.tokens) at

-- the text spells a design, and this is its first fault of names, widths and assignments
pub record HasSizeFault (source : List ℕ) (fault : SizeFault) : Type 0 where
  pub S : SourceTree
  pub tokens : List Token
  pub spells : Spells 0 source tokens
  pub spelled : SpellsSource (items_of Design source tokens) S
  pub first : first_fault S ≡ Some fault

-- the text spells a well sized design, and it is outside the forms that are built
pub record IsOutside (source : List ℕ) : Type 0 where
  pub S : SourceTree
  pub tokens : List Token
  pub spells : Spells 0 source tokens
  pub spelled : SpellsSource (items_of Design source tokens) S
  pub sized : IsWellSized S
  pub large : IsBuiltSource S → ⊥

-- when each refusal of a design's text comes: a fault of the text where it is its first; Syntax where
-- the text has no fault, and its tokens spell no design, and Long where, beyond that, an expression is too
-- long; a fault of names, widths or assignments where they spell one, and it is the first; NotBuilt where
-- the design has none, and is outside the forms that are built
abbrev pub IsRefused : List ℕ → SourceRefusal → Type 0
IsRefused source (Fault (BadByte at)) = Fails 0 source (scan.BadByte at)
IsRefused source (Fault (NumberTooLarge at)) = Fails 0 source (scan.NumberTooLarge at)
IsRefused source (Fault (OpenComment at)) = Fails 0 source (scan.OpenComment at)
IsRefused source (Fault (Syntax at)) = HasNoTree source
IsRefused source (Fault (IllSized fault)) = HasSizeFault source fault
IsRefused source (Fault NotBuilt) = IsOutside source
IsRefused source (Long at) = HasLongExpression source at

-- the stage at which each comes
abbrev pub refusal_stage : SourceRefusal → Stage
refusal_stage (Fault (BadByte at)) = stage.scanning
refusal_stage (Fault (NumberTooLarge at)) = stage.scanning
refusal_stage (Fault (OpenComment at)) = stage.scanning
refusal_stage (Fault (Syntax at)) = stage.grammar
refusal_stage (Fault (IllSized fault)) = stage.sizes
refusal_stage (Fault NotBuilt) = stage.forms
refusal_stage (Long at) = stage.grammar

-- the two that come where the tokens spell no design. Which of them comes, and at what place, isn't
-- settled by that alone
abbrev pub IsUngrammatical : SourceRefusal → Type 0
IsUngrammatical (Fault (Syntax at)) = Unit {0}
IsUngrammatical (Long at) = Unit {0}
IsUngrammatical refusal = ⊥

-- what holds of a text that gives no design
abbrev pub HasRefusal : List ℕ → SourceError → Type 0
HasRefusal source (Refused refusal) = IsRefused source refusal
HasRefusal source Memory = Unit {0}

-- what is said of a text that has a fault
abbrev pub scan_refusal : ScanError → SourceError
scan_refusal (scan.BadByte at) = Refused (Fault (BadByte at))
scan_refusal (scan.NumberTooLarge at) = Refused (Fault (NumberTooLarge at))
scan_refusal (scan.OpenComment at) = Refused (Fault (OpenComment at))
scan_refusal scan.Memory = Memory

-- what is said of a text whose tokens have no tree
abbrev pub parse_refusal : ParseError → SourceError
parse_refusal (parse.Syntax at) = Refused (Fault (Syntax at))
parse_refusal (parse.Long at) = Refused (Long at)
parse_refusal parse.Memory = Memory

-- what is said of a text whose tree isn't well sized
abbrev pub size_refusal : SizeFault → SourceError
size_refusal size.Memory = Memory
size_refusal fault = Refused (Fault (IllSized fault))

-- what is said of a text whose tree gives no design
abbrev pub elab_refusal : ElabError → SourceError
elab_refusal elab.NotBuilt = Refused (Fault NotBuilt)
elab_refusal elab.Memory = Memory
