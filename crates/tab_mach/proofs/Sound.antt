-- Names that stand for vectors that fit, by what they are and as expressions look them up.
use Rattle.std.proofs.Common.{ℕ, zero, suc, Bool, true, false, List, [], ◌∷◌, Option, Some, None}
use Rattle.std.specs.Prelude.{bytes_eq, codes, if◌then◌else◌}
use Rattle.std.specs.List.{AllByRecursion}
use Rattle.lola_bits.specs.declared.vector.Bits.{Bits}
use Rattle.lola_tree.specs.declared.named.Ref.{Ref}
use Rattle.lola_tree.specs.Names.{ref_name}
use Rattle.tab_tree.specs.declared.value.StateValue.{StateValue}
use Rattle.tab_tree.specs.declared.value.StateValue.TheVariants.{One}
use Rattle.tab_tree.specs.Table.{StateTree}
use Rattle.tab_tree.specs.Names.{Names, look, bare_name, numbered, or_else, mapped, with_name}
use Rattle.tab_tree.specs.Step.{Arch, first_of, state_value}
use Rattle.tab_mach.specs.declared.known.Given.{Given}
use Rattle.tab_mach.specs.declared.known.Known.{Known}
use Rattle.tab_mach.specs.Vectors.{AreVectors, IsValue}
use Rattle.tab_mach.specs.Known.{slot, last_value, names_of, AreKnown}
use Rattle.tab_mach.specs.Begun.{AreGiven}
use Rattle.tab_mach.specs.Outcome.{AreStates}
use Rattle.tab_mach.specs.Sound.{AreSound}

-- what is chosen of two
of_test : (b : Bool) (x y : Option StateValue) → IsValue x → IsValue y → IsValue (if b then x else y)
of_test true x y p q = p
of_test false x y p q = q

of_number : (o : Option ℕ) (f : ℕ → Option StateValue) (y : Option StateValue) → ((j : ℕ) → IsValue (f j)) → IsValue y → IsValue (or_else o f y)
of_number None f y p q = q
of_number (Some j) f y p q = p j

of_first : (x y : Option StateValue) → IsValue x → IsValue y → IsValue (first_of x y)
of_first None y p q = q
of_first (Some x) y p q = p

pub of_vector : (x : Option Bits) → AreVectors x → IsValue (mapped One x)
of_vector None p = tt
of_vector (Some x) p = p

-- a name, as it is looked up
look_sound : (names : Names StateValue) → AreSound names → (r : Ref) → IsValue (look names r)
look_sound names s r =
    of_test r.source (names.register r.path) (bare_name names (ref_name r)) (s.register r.path) (
    of_test (bytes_eq (ref_name r) (codes "i")) names.word _ s.word (
    of_test (bytes_eq (ref_name r) (codes "k")) names.count _ s.count (
    of_number (numbered 100 (ref_name r)) names.loaded _ s.loaded (of_number (numbered 116 (ref_name r)) names.turned _ s.turned (s.named (ref_name r)))
    )
    )
    )

pub sound_known : (k : Known) → AreSound (names_of k) → AreKnown k
sound_known k s = look_sound (names_of k) s

-- one more name
pub with_sound : (names : Names StateValue) → AreSound names → (name : List ℕ) (x : Option StateValue) → IsValue x → AreSound (with_name names name x)
with_sound names s name x fits = record {
  word = s.word;
  count = s.count;
  loaded = s.loaded;
  turned = s.turned;
  named = λ other. of_test (bytes_eq name other) x (names.named other) fits (s.named other);
  register = s.register;
}

-- what stands in a place
pub slot_sound : (xs : List (Option Bits)) → AllByRecursion AreVectors xs → (j : ℕ) → IsValue (mapped One (slot xs j))
slot_sound [] all j = tt
slot_sound (x ∷ xs) all zero = of_vector x all.0
slot_sound (x ∷ xs) all (suc j) = slot_sound xs all.1 j

-- a state, a field and a LET
pub state_sound : (rows : List StateTree) (A : Arch) → AreStates A → (name : List ℕ) → IsValue (state_value rows A name)
state_sound [] A all name = tt
state_sound (row ∷ rows) [] all name = tt
state_sound (row ∷ rows) (a ∷ A) all name = of_test (bytes_eq row.name name) (Some a) (state_value rows A name) all.0 (state_sound rows A all.1 name)

pub last_sound : (gs : List Given) → AreGiven gs → (name : List ℕ) (before : Option StateValue) → IsValue before → IsValue (last_value gs name before)
last_sound [] all name before fits = fits
last_sound (g ∷ gs) all name before fits =
    last_sound gs all.1 name (if bytes_eq g.name.now name then mapped One g.value else before) (of_test (bytes_eq g.name.now name) (mapped One g.value) before (of_vector g.value all.0) fits)

pub named_sound : (rows : List StateTree) (A : Arch) (fields : List Given) → AreStates A → AreGiven fields → (name : List ℕ) → IsValue (first_of (state_value rows A name) (last_value fields name None))
named_sound rows A fields states given name = of_first (state_value rows A name) (last_value fields name None) (state_sound rows A states name) (last_sound fields given name None tt)
