-- An instruction under way, in the words of the definitions.
use Rattle.std.specs.Prelude.{◌≡◌, ℕ, ◌<◌, List, length, Option, Some, None}
use Rattle.std.specs.List.{AllByRecursion}
use Rattle.lola_bits.specs.declared.vector.Bits.{Bits}
use Rattle.lola_bits.specs.Vector.{FitsWidth}
use Rattle.tab_tree.specs.declared.value.StateValue.{StateValue}
use Rattle.tab_tree.specs.Table.{InsideTree, TableTree, table_tree, steps_tree}
use Rattle.tab_tree.specs.Names.{Names}
use Rattle.tab_tree.specs.Step.{Words, class_names, field_values}
use Rattle.tab_mach.specs.declared.known.Given.{Given}
use Rattle.tab_mach.specs.declared.words.Kept.{Kept}
use Rattle.tab_mach.specs.declared.scope.Begun.{Begun}
use Rattle.tab_mach.specs.Known.{slot, last_value}
use Rattle.tab_mach.specs.Vectors.{AreVectors, IsValue}

-- the words that are kept
abbrev pub words_of : Kept → Words
words_of kept = record { loaded = slot kept.loaded.items; turned = slot kept.turned.items }

-- there are places for the words of the phase of a number, and as many as before
pub record HasRoom (kept : Kept) (phase : ℕ) : Type 0 where
  pub loaded : phase < length kept.loaded.items
  pub turned : phase < length kept.turned.items

pub record SameRoom (before after : Kept) : Type 0 where
  pub loaded : length after.loaded.items ≡ length before.loaded.items
  pub turned : length after.turned.items ≡ length before.turned.items

-- its table and its steps
abbrev pub table_of : Begun → TableTree
table_of g = table_tree g.table.now

abbrev pub steps_of : Begun → InsideTree
steps_of g = steps_tree g.inside.now

-- what its expressions name
abbrev pub names_in : Begun → Words → Option ℕ → Names StateValue
names_in g m k = class_names (table_of g) (steps_of g) g.arch.now g.word m k

-- rows stand for vectors that fit
abbrev pub AreGiven : List Given → Type 0
AreGiven rows = AllByRecursion (λ (f : Given). AreVectors f.value) rows

-- the fields of a table, each with its value over a word
abbrev pub AreFields : TableTree → Bits → List Given → Type 0
AreFields T i rows = (name : List ℕ) → last_value rows name None ≡ field_values T i name

-- the fields have their values over the word, and all that it began with fits
pub record IsBegun (g : Begun) : Type 0 where
  pub fields : AreFields (table_of g) g.word g.fields.now
  pub given : AreGiven g.fields.now
  pub arch : AllByRecursion (λ (a : StateValue). IsValue (Some a)) g.arch.now
  pub word : FitsWidth g.word.width g.word.value

-- a count of turns has 8 bits
abbrev pub IsCount : Option ℕ → Type 0
IsCount None = Unit {0}
IsCount (Some k) = k < 256
