-- What the evaluation of an instruction holds, as what names stand for.
use Rattle.std.specs.Prelude.{ℕ, List, [], ◌∷◌, if◌then◌else◌, bytes_eq, map, slice_get, Option, Some, None}
use Rattle.lola_bits.specs.declared.vector.Bits.{Bits}
use Rattle.tab_tree.specs.declared.value.StateValue.{StateValue}
use Rattle.tab_tree.specs.declared.value.StateValue.TheVariants.{One, Many}
use Rattle.tab_tree.specs.Table.{state_tree}
use Rattle.lola_tree.specs.declared.named.Ref.{Ref}
use Rattle.lola_tree.specs.Tree.{Parts}
use Rattle.lola_tree.specs.Width.{total_width}
use Rattle.lola_tree.specs.Value.{value_of_parts}
use Rattle.tab_mach.specs.Vectors.{IsValue, run_by}
use Rattle.tab_tree.specs.Names.{Names, nothing, mapped, look, forms_of, scope_by, number_at}
use Rattle.tab_tree.specs.Step.{first_of, state_value}
use Rattle.tab_mach.specs.declared.known.Given.{Given}
use Rattle.tab_mach.specs.declared.known.Meaning.{Meaning}
use Rattle.tab_mach.specs.declared.known.Meaning.TheVariants.{Vector, Array}
use Rattle.tab_mach.specs.declared.known.Known.{Known}

-- what stands in a place of a list, if anything does
abbrev pub or_none : Option (Option Bits) → Option Bits
or_none None = None
or_none (Some x) = x

abbrev pub slot : List (Option Bits) → ℕ → Option Bits
slot slots j = or_none (slice_get slots j)

-- the last row with a name
abbrev pub last_value : List Given → List ℕ → Option StateValue → Option StateValue
last_value [] name before = before
last_value (g ∷ rows) name before = last_value rows name (if bytes_eq g.name.now name then mapped One g.value else before)

-- a meaning as a value
abbrev pub value_of : Meaning → StateValue
value_of (Vector x) = One x
value_of (Array xs) = Many xs.now

-- a state, or else a field
abbrev pub base_value : Known → List ℕ → Option StateValue
base_value k name = first_of (state_value (map state_tree k.states.now) k.arch.now name) (last_value k.fields.now name None)

abbrev pub names_of : Known → Names StateValue
names_of k = record {
  word = Some (One k.word);
  count = mapped One k.count;
  loaded = λ j. mapped One (slot k.loaded.now j);
  turned = λ j. mapped One (slot k.turned.now j);
  named = λ name. last_value k.lets.items name (base_value k name);
  register = nothing;
}

-- each name stands for vectors that fit their widths
abbrev pub AreKnown : Known → Type 0
AreKnown k = (r : Ref) → IsValue (look (names_of k) r)

-- the bits of the parts of a concatenation, up to 128
abbrev pub parts_run : Names StateValue → Parts → Option Bits
parts_run names parts =
    run_by (total_width (scope_by (forms_of names)) parts) (value_of_parts (scope_by (forms_of names)) parts (λ r n. number_at (look names r) n))
