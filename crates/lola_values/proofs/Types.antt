-- In a well sized design only registers are arrays.
use Rattle.std.proofs.Common.{◌≡◌, ◌≢◌, ℕ, Bool, true, false, List, [], ◌∷◌, ◌++◌, reverse, Option, sym, ap, subst, inl, inr}
use Rattle.std.specs.Prelude.{bytes_eq, if◌then◌else◌}
use Rattle.lola_bits.specs.Lists.{IsIn}
use Rattle.lola_bits.proofs.Lists.{both_none, in_either, from_map, from_flat_map}
use Rattle.lola_bits.specs.Names.{is_among}
use Rattle.lola_tree.specs.declared.named.Shape.{Shape}
use Rattle.lola_tree.specs.declared.named.Shape.TheVariants.{Vector, Array}
use Rattle.lola_tree.specs.declared.module.Way.{Way}
use Rattle.lola_tree.specs.declared.module.Way.TheVariants.{Inward, Outward, Both}
use Rattle.lola_tree.specs.declared.module.Port.{Port}
use Rattle.lola_tree.specs.declared.module.LocalKind.{LocalKind}
use Rattle.lola_tree.specs.declared.module.LocalKind.TheVariants.{Reg, Var, Inst}
use Rattle.lola_tree.specs.declared.module.Local.{Local}
use Rattle.lola_tree.specs.Names.{Names, names_of}
use Rattle.lola_tree.specs.Tree.{ModuleTree, SourceTree}
use Rattle.lola_tree.specs.Value.{Path}
use Rattle.lola_tree.specs.design.Clocks.{clocks_in, clock_ports}
use Rattle.lola_tree.specs.design.Signals.{register, wire, Signal, root_port, root_ports, shown_port, instance_port, instance_ports, kind_signals, local_signals, signals_at, signals_inside, root_signals, signals}
use Rattle.lola_width.specs.Interface.{Seen}
use Rattle.lola_width.specs.NameFaults.{shape_faults, array_faults, type_faults, port_faults, kind_faults, local_faults}
use Rattle.lola_width.specs.Sized.{clock_in}
use Rattle.lola_design.specs.Regular.{IsVector}
use Rattle.lola_regular.specs.Clocked.{seen_behind}
use Rattle.lola_regular.proofs.Clean.{IsClean, AllClean}

-- a type that may not be an array
pub type_vector : (names : Names) (at : ℕ) (name : List ℕ) (type : Shape) → type_faults names false at name type ≡ [] → IsVector type
type_vector names at name (Vector width) none = tt
type_vector names at name (Array count width) none =
    let split = both_none (shape_faults names (Array count width)) (array_faults names false at name (Array count width)) none in absurd (let e = split.1 in cc)

pub ports_vectors : (names : Names) (ps : List Port) → port_faults names ps ≡ [] → (p : Port) → IsIn p ps → IsVector p.shape
ports_vectors names [] none p is = absurd is
ports_vectors names (q ∷ ps) none p is =
    let split = both_none (type_faults names false q.at q.name q.shape) (port_faults names ps) none in
    elim is [
      | inl same ↦ subst (λ (k : Port). IsVector k.shape) (sym same) (type_vector names q.at q.name q.shape split.0)
      | inr later ↦ ports_vectors names ps split.1 p later
    ]

-- the faults of one local name
pub local_clean : (names : Names) (seen : Seen) (clock : Option (List ℕ)) (ls : List Local) → local_faults names seen clock ls ≡ [] → (l : Local) → IsIn l ls → kind_faults names seen clock l.at l.name l.kind ≡ []
local_clean names seen clock [] none l is = absurd is
local_clean names seen clock (k ∷ ls) none l is =
    let split = both_none (kind_faults names seen clock k.at k.name k.kind) (local_faults names seen clock ls) none in
    elim is [
      | inl same ↦ subst (λ (j : Local). kind_faults names seen clock j.at j.name j.kind ≡ []) (sym same) split.0
      | inr later ↦ local_clean names seen clock ls split.1 l later
    ]

abbrev AllVectors : List Signal → Type 0
AllVectors xs = (x : Signal) → IsIn x xs → x.kind ≢ register → IsVector x.type

shown_vector : (w : Way) (b : Bool) (s x : Signal) → IsVector s.type → IsIn x (shown_port w b s) → IsVector x.type
shown_vector Inward true s x is there = absurd there
shown_vector Inward false s x is (inl same) = subst (λ (k : Signal). IsVector k.type) (sym same) is
shown_vector Inward false s x is (inr none) = absurd none
shown_vector Outward b s x is (inl same) = subst (λ (k : Signal). IsVector k.type) (sym same) is
shown_vector Outward b s x is (inr none) = absurd none
shown_vector Both b s x is (inl same) = subst (λ (k : Signal). IsVector k.type) (sym same) is
shown_vector Both b s x is (inr none) = absurd none

module _ (earlier : List ModuleTree) (m : ModuleTree) (clean : IsClean (seen_behind earlier) m) (inside : List ℕ → Path → List Signal) (so : (name : List ℕ) (p : Path) → AllVectors (inside name p)) where
  kind_vectors : (at : ℕ) (name : List ℕ) (q : Path) (k : LocalKind) → kind_faults (names_of m) (seen_behind earlier) (clock_in (seen_behind earlier) m) at name k ≡ [] → AllVectors (kind_signals inside (names_of m) q k)
  kind_vectors at name q (Reg under type) none x (inl same) other = absurd (other (ap (λ (k : Signal). k.kind) same))
  kind_vectors at name q (Reg under type) none x (inr absent) other = absurd absent
  kind_vectors at name q (Var type) none x (inl same) other = subst (λ (k : Signal). IsVector k.type) (sym same) (type_vector (names_of m) at name type none)
  kind_vectors at name q (Var type) none x (inr absent) other = absurd absent
  kind_vectors at name q (Inst of) none x there other = so of.name q x there other

  locals_vectors : (p : Path) → AllVectors (local_signals inside (names_of m) p m.locals)
  locals_vectors p x there other =
      let f = from_flat_map (λ (l : Local). kind_signals inside (names_of m) (p ++ l.name ∷ []) l.kind) x m.locals there in
      let none = local_clean (names_of m) (seen_behind earlier) (clock_in (seen_behind earlier) m) m.locals clean.locals f.0 f.1 in
      kind_vectors f.0.at f.0.name (p ++ f.0.name ∷ []) f.0.kind none x f.2 other

  instance_vectors : (clocks : List (List ℕ)) (p : Path) → AllVectors (instance_ports (names_of m) clocks p m.ports)
  instance_vectors clocks p x there other =
      let f = from_flat_map (instance_port (names_of m) clocks p) x m.ports there in
      shown_vector f.0.way (is_among clocks f.0.name) (record { path = p ++ f.0.name ∷ []; kind = wire; names = names_of m; type = f.0.shape }) x (ports_vectors (names_of m) m.ports clean.ports f.0 f.1) f.2

  root_vectors : (clocks : List (List ℕ)) → AllVectors (root_ports (names_of m) clocks m.ports)
  root_vectors clocks x there other =
      let f = from_map (root_port (names_of m) clocks) x m.ports there in
      subst (λ (k : Signal). IsVector k.type) (sym f.2) (ports_vectors (names_of m) m.ports clean.ports f.0 f.1)

  both_vectors : (xs ys : List Signal) → AllVectors xs → AllVectors ys → AllVectors (xs ++ ys)
  both_vectors xs ys p q x there other = elim (in_either x xs ys there) [ inl front ↦ p x front other | inr back ↦ q x back other ]

inside_vectors : (ms : List ModuleTree) → AllClean ms → (name : List ℕ) (p : Path) → AllVectors (signals_inside ms name p)
inside_vectors [] clean name p = λ x there other. absurd there
inside_vectors (m ∷ earlier) clean name p = by_test (bytes_eq m.name name)
    (both_vectors earlier m clean.0 (signals_inside earlier) (inside_vectors earlier clean.1) (instance_ports (names_of m) (clocks_in (clock_ports earlier) m) p m.ports) (local_signals (signals_inside earlier) (names_of m) p m.locals)
    (instance_vectors earlier m clean.0 (signals_inside earlier) (inside_vectors earlier clean.1) (clocks_in (clock_ports earlier) m) p) (locals_vectors earlier m clean.0 (signals_inside earlier) (inside_vectors earlier clean.1) p))
    (inside_vectors earlier clean.1 name p)
  where
    by_test : (b : Bool) → AllVectors (signals_at (clock_ports earlier) (signals_inside earlier) m p) → AllVectors (signals_inside earlier name p) →
        AllVectors (if b then signals_at (clock_ports earlier) (signals_inside earlier) m p else signals_inside earlier name p)
    by_test true here later = here
    by_test false here later = later

root_all_vectors : (ms : List ModuleTree) → AllClean ms → AllVectors (root_signals ms)
root_all_vectors [] clean = λ x there other. absurd there
root_all_vectors (m ∷ earlier) clean =
    both_vectors earlier m clean.0 (signals_inside earlier) (inside_vectors earlier clean.1) (root_ports (names_of m) (clocks_in (clock_ports earlier) m) m.ports) (local_signals (signals_inside earlier) (names_of m) [] m.locals)
    (root_vectors earlier m clean.0 (signals_inside earlier) (inside_vectors earlier clean.1) (clocks_in (clock_ports earlier) m)) (locals_vectors earlier m clean.0 (signals_inside earlier) (inside_vectors earlier clean.1) [])

pub all_vectors : (S : SourceTree) → AllClean (reverse S.modules) → (x : Signal) → IsIn x (signals S) → x.kind ≢ register → IsVector x.type
all_vectors S clean = root_all_vectors (reverse S.modules) clean
