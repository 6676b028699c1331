-- When the text of a source is refused, and why.
use Rattle.std.specs.Prelude.{◌≡◌, ℕ, ◌<◌, ◌≤◌, List, map, Some}
use Rattle.lola_tree.specs.Tree.{SourceTree}
use Rattle.lola_tree.specs.Value.{Path}
use Rattle.lola_tree.specs.design.Signals.{height, size}
use Rattle.lola_tree.specs.design.Chains.{IsLoop}
use Rattle.lola_scan.specs.declared.token.Token.{Token}
use Rattle.lola_scan.specs.declared.token.ScanError.{ScanError}
use Rattle.lola_scan.specs.declared.token.ScanError.TheVariants as scan
use Rattle.lola_scan.specs.Tokens.{Spells, Fails}
use Rattle.lola_parse.specs.declared.parser.ParseError.{ParseError}
use Rattle.lola_parse.specs.declared.parser.ParseError.TheVariants as parse
use Rattle.lola_parse.specs.declared.symbol.Language.TheVariants.{Design}
use Rattle.lola_parse.specs.Symbols.{items_of}
use Rattle.lola_parse.specs.Design.{SpellsSource}
use Rattle.lola_parse.specs.Long.{IsTooLong}
use Rattle.lola_width.specs.declared.fault.SourceFault.{SourceFault as SizeFault}
use Rattle.lola_width.specs.declared.fault.SourceFault.TheVariants as size_fault
use Rattle.lola_width.specs.Sized.{IsWellSized, first_fault}
use Rattle.lola_unfold.specs.declared.unfolding.ElabError.{ElabError}
use Rattle.lola_unfold.specs.declared.unfolding.ElabError.TheVariants as elab
use Rattle.lola_unfold.specs.Slots.{capped}
use Rattle.lola_unfold.specs.Finished.{dotted}
use Rattle.lola_source.specs.declared.fault.SourceFault.TheVariants.{BadByte, NumberTooLarge, OpenComment, Syntax, IllSized, Loop}
use Rattle.lola_source.specs.declared.fault.SourceError.{SourceError}
use Rattle.lola_source.specs.declared.fault.SourceError.TheVariants.{Refused, Memory}
use Rattle.lola_source.specs.declared.fault.SourceRefusal.{SourceRefusal}
use Rattle.lola_source.specs.declared.fault.SourceRefusal.TheVariants.{Fault, Long, TooDeep, TooMany}
use Rattle.lola_source.specs.Accepts.{IsSourceOf}
use Rattle.lola_source.specs.Stages as stage
use Rattle.lola_source.specs.Stages.{Stage}

-- the text spells tokens, and they spell no source with at most 512 tokens in each outermost expression
pub record HasNoTree (bytes : List ℕ) : Type 0 where
  pub tokens : List Token
  pub spells : Spells 0 bytes tokens
  pub none : (S : SourceTree) → SpellsSource (items_of Design bytes tokens) S → ⊥

-- they spell none, and somewhere among them stand 513 with which some expression begins, the last of them
-- at this place
pub record HasLongExpression (bytes : List ℕ) (at : ℕ) : Type 0 where
  pub no_tree : HasNoTree bytes
  pub long : IsTooLong Design (items_of Design bytes no_tree.tokens) at

-- the text spells a source, and this is its first fault of names, widths and assignments
pub record HasSizeFault (bytes : List ℕ) (fault : SizeFault) : Type 0 where
  pub S : SourceTree
  pub source : IsSourceOf bytes S
  pub first : first_fault S ≡ Some fault

-- the text spells a well sized source, in which modules stand more than 64 deep, so many
pub record HasDepth (bytes : List ℕ) (n : ℕ) : Type 0 where
  pub S : SourceTree
  pub source : IsSourceOf bytes S
  pub sized : IsWellSized S
  pub deep : 64 < height S
  pub is : n ≡ capped (height S)

-- they stand at most 64 deep, and its signals, each element of an array counted, and its instances are more than
-- 65,536
pub record HasMany (bytes : List ℕ) : Type 0 where
  pub S : SourceTree
  pub source : IsSourceOf bytes S
  pub sized : IsWellSized S
  pub shallow : height S ≤ 64
  pub many : 65536 < size S

-- they are no more, and a closed chain goes through its equations: its signals, named by their paths with dots, are
-- distinct, each occurs in the equation of the next and the last in that of the first, which is the earliest of them
pub record HasChain (bytes : List ℕ) (names : List (List ℕ)) : Type 0 where
  pub S : SourceTree
  pub source : IsSourceOf bytes S
  pub sized : IsWellSized S
  pub shallow : height S ≤ 64
  pub few : size S ≤ 65536
  pub paths : List Path
  pub chain : IsLoop S paths
  pub are : names ≡ map dotted paths

-- when each refusal comes: a fault of the text where it is its first; Syntax where the text has no fault, and its
-- tokens spell no source, and Long where, beyond that, an expression is too long; a fault of names, widths or
-- assignments where they spell one, and it is the first; TooDeep where the source has none; TooMany where beyond
-- that it is not too deep, and Loop where beyond that its signals and instances are not too many
abbrev pub IsRefused : List ℕ → SourceRefusal → Type 0
IsRefused bytes (Fault (BadByte at)) = Fails 0 bytes (scan.BadByte at)
IsRefused bytes (Fault (NumberTooLarge at)) = Fails 0 bytes (scan.NumberTooLarge at)
IsRefused bytes (Fault (OpenComment at)) = Fails 0 bytes (scan.OpenComment at)
IsRefused bytes (Fault (Syntax at)) = HasNoTree bytes
IsRefused bytes (Fault (IllSized fault)) = HasSizeFault bytes fault
IsRefused bytes (Fault (Loop names)) = HasChain bytes names
IsRefused bytes (Long at) = HasLongExpression bytes at
IsRefused bytes (TooDeep height) = HasDepth bytes height
IsRefused bytes TooMany = HasMany bytes

-- the stage at which each comes
abbrev pub refusal_stage : SourceRefusal → Stage
refusal_stage (Fault (BadByte at)) = stage.scanning
refusal_stage (Fault (NumberTooLarge at)) = stage.scanning
refusal_stage (Fault (OpenComment at)) = stage.scanning
refusal_stage (Fault (Syntax at)) = stage.grammar
refusal_stage (Fault (IllSized fault)) = stage.sizes
refusal_stage (Fault (Loop names)) = stage.chains
refusal_stage (Long at) = stage.grammar
refusal_stage (TooDeep height) = stage.depth
refusal_stage TooMany = stage.count

-- what holds of a text of which no source is read
abbrev pub HasRefusal : List ℕ → SourceError → Type 0
HasRefusal bytes (Refused refusal) = IsRefused bytes refusal
HasRefusal bytes Memory = Unit {0}

-- what is said of a text that has a fault
abbrev pub scan_refusal : ScanError → SourceError
scan_refusal (scan.BadByte at) = Refused (Fault (BadByte at))
scan_refusal (scan.NumberTooLarge at) = Refused (Fault (NumberTooLarge at))
scan_refusal (scan.OpenComment at) = Refused (Fault (OpenComment at))
scan_refusal scan.Memory = Memory

-- what is said of a text whose tokens have no tree
abbrev pub parse_refusal : ParseError → SourceError
parse_refusal (parse.Syntax at) = Refused (Fault (Syntax at))
parse_refusal (parse.Long at) = Refused (Long at)
parse_refusal parse.Memory = Memory

-- what is said of a text whose tree isn't well sized
abbrev pub size_refusal : SizeFault → SourceError
size_refusal size_fault.Memory = Memory
size_refusal fault = Refused (Fault (IllSized fault))

-- what is said of a text whose source has no flat design
abbrev pub elab_refusal : ElabError → SourceError
elab_refusal (elab.TooDeep height) = Refused (TooDeep height)
elab_refusal elab.TooMany = Refused TooMany
elab_refusal (elab.Loop names) = Refused (Fault (Loop names))
elab_refusal elab.Memory = Memory
