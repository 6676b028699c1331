-- The INOUT ports of a module of a well sized design have the widths of the pads of the root that they stand for.
use Rattle.std.proofs.Common.{◌≡◌, ℕ, List, [], ◌∷◌, ◌++◌, reverse, Option, Some, None, refl, sym, ◌∙◌, ap, subst, inl, inr}
use Rattle.std.specs.Prelude.{bytes_eq}
use Rattle.std.proofs.lemmas.Bool.{cases_Bool, cond-true, cond-false, false≢true}
use Rattle.lola_bits.specs.Lists.{IsIn}
use Rattle.lola_bits.specs.Names.{is_among}
use Rattle.lola_bits.proofs.Lists.{in_front, to_map}
use Rattle.lola_bits.proofs.Names.{same_name, is_same_name}
use Rattle.lola_tree.specs.declared.module.Way.{Way}
use Rattle.lola_tree.specs.declared.module.Way.TheVariants.{Inward, Outward, Both}
use Rattle.lola_tree.specs.declared.module.Port.{Port}
use Rattle.lola_tree.specs.Names.{names_of}
use Rattle.lola_tree.specs.Tree.{ActualTree, ModuleTree, SourceTree}
use Rattle.lola_tree.specs.Value.{Path}
use Rattle.lola_tree.specs.Width.{vector_width, entry_width}
use Rattle.lola_tree.specs.design.Calls.{bare_name}
use Rattle.lola_tree.specs.design.Clocks.{clocks_in, clock_ports}
use Rattle.lola_tree.specs.design.Places.{Pads, pad_of, way_pad, own_pads, passed_pads, Caller, Place, root_places, places}
use Rattle.lola_tree.specs.design.Signals.{Signal, pad, root_kind, root_port, root_ports, local_signals, signals_inside, root_signals, signals}
use Rattle.lola_tree.specs.design.Cycle.{IsSignal}
use Rattle.lola_width.specs.WidthFaults.{name_width}
use Rattle.lola_design.specs.Drives.{pad_names, ArePassed, IsPassedBy, PadsFit}
use Rattle.lola_design.specs.Regular.{IsVector}
use Rattle.lola_regular.specs.Clocked.{seen_behind}
use Rattle.lola_regular.proofs.Clean.{IsClean, AllClean}
use Rattle.lola_regular.proofs.Named.{are_distinct, port_named}
use Rattle.lola_values.proofs.Types.{ports_vectors}
use Rattle.lola_values.proofs.Inherited.{Inherits, AllHave, root_has}

-- a name stands for a pad of the root that is a vector of its width
pub record StandsFor (S : SourceTree) (m : ModuleTree) (name : List ℕ) (path : Path) : Type 0 where
  pub signal : Signal
  pub is_pad : IsSignal S pad signal
  pub path_is : signal.path ≡ path
  pub vector : IsVector signal.type
  pub wide : vector_width signal.names (Some signal.type) ≡ name_width (names_of m) name

abbrev pub ArePads : SourceTree → ModuleTree → Pads → Type 0
ArePads S m pads = (n : List ℕ) → IsIn n (pad_names pads) → StandsFor S m n (pad_of pads n)

-- one INOUT port more
pub one_more : (P : List ℕ → Path → Type 0) (w : Way) (name n : List ℕ) (path : Path) (rest : Pads) → (w ≡ Both → P name path) → (IsIn n (pad_names rest) → P n (pad_of rest n)) →
    IsIn n (pad_names (way_pad w name path ++ rest)) → P n (pad_of (way_pad w name path ++ rest) n)
one_more P Inward name n path rest here later is = later is
one_more P Outward name n path rest here later is = later is
one_more P Both name n path rest here later is = elim (cases_Bool (bytes_eq name n)) [
  | inl same ↦ subst (P n) (sym (cond-true (bytes_eq name n) path (pad_of rest n) same)) (subst (λ (k : List ℕ). P k path) (is_same_name name n same) (here refl))
  | inr other ↦ subst (P n) (sym (cond-false (bytes_eq name n) path (pad_of rest n) other)) (elim is [
    | inl same ↦ absurd (false≢true (sym other ∙ same_name name n (sym same)))
    | inr behind ↦ later behind
  ])
]

-- the pads of the root
module _ (S : SourceTree) (m : ModuleTree) (seen : List ModuleTree) (clean : IsClean (seen_behind seen) m) (clocks : List (List ℕ))
    (within : (x : Signal) → IsIn x (root_ports (names_of m) clocks m.ports) → IsIn x (signals S)) where
  own_pad : (q : Port) → IsIn q m.ports → q.way ≡ Both → StandsFor S m q.name (q.name ∷ [])
  own_pad q there both = record {
    signal = root_port (names_of m) clocks q;
    is_pad = (within (root_port (names_of m) clocks q) (to_map (root_port (names_of m) clocks) q m.ports there), ap (λ (w : Way). root_kind w (is_among clocks q.name)) both);
    path_is = refl;
    vector = ports_vectors (names_of m) m.ports clean.ports q there;
    wide = sym (ap (entry_width (names_of m)) (port_named m q (are_distinct m clean.doubled) there));
  }

  own_stand : (ports : List Port) → ((q : Port) → IsIn q ports → IsIn q m.ports) → ArePads S m (own_pads ports)
  own_stand [] sub n is = absurd is
  own_stand (q ∷ ports) sub n is =
      one_more (StandsFor S m) q.way q.name n (q.name ∷ []) (own_pads ports) (λ both. own_pad q (sub q (inl refl)) both) (own_stand ports (λ r there. sub r (inr there)) n) is

-- an instance's INOUT ports have the widths of their arguments
abbrev pub AreEqual : ModuleTree → ModuleTree → List Port → List ActualTree → Type 0
AreEqual c m [] args = Unit {0}
AreEqual c m (q ∷ ports) [] = Unit {0}
AreEqual c m (q ∷ ports) (a ∷ args) = (q.way ≡ Both → name_width (names_of c) (bare_name a.value) ≡ name_width (names_of m) q.name) × AreEqual c m ports args

passed_stand : (S : SourceTree) (c m : ModuleTree) (pads : Pads) (ports : List Port) (args : List ActualTree) → ArePassed pads ports args → AreEqual c m ports args → ArePads S c pads → ArePads S m (passed_pads pads ports args)
passed_stand S c m pads [] args passed equal stand n is = absurd is
passed_stand S c m pads (q ∷ ports) [] passed equal stand n is = absurd is
passed_stand S c m pads (q ∷ ports) (a ∷ args) passed equal stand n is =
    one_more (StandsFor S m) q.way q.name n (pad_of pads (bare_name a.value)) (passed_pads pads ports args)
    (λ both.
    let k = stand (bare_name a.value) (passed.0 both).1 in
    record { signal = k.signal; is_pad = k.is_pad; path_is = k.path_is; vector = k.vector; wide = k.wide ∙ equal.0 both })
    (passed_stand S c m pads ports args passed.1 equal.1 stand n) is

abbrev pub IsEqualBy : Place → Option Caller → Type 0
IsEqualBy a None = Unit {0}
IsEqualBy a (Some c) = AreEqual c.module_ a.module_ a.module_.ports c.args

inherits : (S : SourceTree) (a : Place) (c : Option Caller) → IsPassedBy a c → IsEqualBy a c → Inherits (ArePads S) a c
inherits S a None passed equal = tt
inherits S a (Some c) passed equal = passed_stand S c.module_ a.module_ c.pads a.module_.ports c.args passed equal

all_stand_for : (S : SourceTree) (ms : List ModuleTree) → AllClean ms → ((x : Signal) → IsIn x (root_signals ms) → IsIn x (signals S)) → AllHave (ArePads S) (root_places ms)
all_stand_for S [] clean within = λ each a is. absurd is
all_stand_for S (m ∷ earlier) clean within =
    let clocks = clocks_in (clock_ports earlier) m in
    let ports = root_ports (names_of m) clocks m.ports in
    root_has (ArePads S) m earlier
    (own_stand S m earlier clean.0 clocks (λ x is. within x (in_front x ports (local_signals (signals_inside earlier) (names_of m) [] m.locals) is)) m.ports (λ q there. there))

pub pads_stand : (S : SourceTree) → AllClean (reverse S.modules) → PadsFit S → ((a : Place) → IsIn a (places S) → IsEqualBy a a.caller) → (a : Place) → IsIn a (places S) → ArePads S a.module_ a.pads
pads_stand S clean fit equal = all_stand_for S (reverse S.modules) clean (λ x is. is) (λ a is. inherits S a a.caller (fit.passed a is) (equal a is))
