-- Each signal of a well sized design has a type of some width.
use Rattle.std.proofs.Common.{◌≡◌, ℕ, Bool, true, false, List, [], ◌∷◌, ◌++◌, reverse, sym, subst, inl, inr}
use Rattle.std.specs.Prelude.{bytes_eq, if◌then◌else◌}
use Rattle.lola_bits.specs.Lists.{IsIn}
use Rattle.lola_bits.specs.Names.{is_among}
use Rattle.lola_bits.proofs.Lists.{both_none, in_either, from_map, from_flat_map}
use Rattle.lola_tree.specs.declared.named.Shape.{Shape}
use Rattle.lola_tree.specs.declared.named.Shape.TheVariants.{Vector, Array}
use Rattle.lola_tree.specs.declared.module.Way.{Way}
use Rattle.lola_tree.specs.declared.module.Way.TheVariants.{Inward, Outward, Both}
use Rattle.lola_tree.specs.declared.module.Port.{Port}
use Rattle.lola_tree.specs.declared.module.LocalKind.{LocalKind}
use Rattle.lola_tree.specs.declared.module.LocalKind.TheVariants.{Reg, Var, Inst}
use Rattle.lola_tree.specs.declared.module.Local.{Local}
use Rattle.lola_tree.specs.Names.{Names, names_of}
use Rattle.lola_tree.specs.Tree.{ModuleTree, SourceTree}
use Rattle.lola_tree.specs.Value.{Path}
use Rattle.lola_tree.specs.design.Clocks.{clocks_in, clock_ports}
use Rattle.lola_tree.specs.design.Signals.{wire, Signal, root_port, root_ports, shown_port, instance_port, instance_ports, kind_signals, local_signals, signals_at, signals_inside, root_signals, signals}
use Rattle.lola_width.specs.Sized.{clock_in}
use Rattle.lola_width.specs.NameFaults.{no_clock, type_faults, port_faults, kind_faults}
use Rattle.lola_width.specs.WidthFaults.{shape_widths, port_widths, kind_widths, local_widths}
use Rattle.lola_regular.specs.Clocked.{seen_behind}
use Rattle.lola_regular.proofs.Clean.{IsClean, AllClean}
use Rattle.lola_values.proofs.Types.{local_clean}
use Rattle.lola_values.proofs.Known.{NumbersAll, vector_known, array_known}
use Rattle.lola_meaning.specs.Typed.{HasWidth}

abbrev AllHave : List Signal → Type 0
AllHave xs = (x : Signal) → IsIn x xs → HasWidth x.names x.type

both_have : (xs ys : List Signal) → AllHave xs → AllHave ys → AllHave (xs ++ ys)
both_have xs ys p q x there = elim (in_either x xs ys there) [ inl front ↦ p x front | inr back ↦ q x back ]

shown_same : (w : Way) (b : Bool) (y x : Signal) → IsIn x (shown_port w b y) → x ≡ y
shown_same Inward true y x there = absurd there
shown_same Inward false y x (inl same) = same
shown_same Inward false y x (inr none) = absurd none
shown_same Outward b y x (inl same) = same
shown_same Outward b y x (inr none) = absurd none
shown_same Both b y x (inl same) = same
shown_same Both b y x (inr none) = absurd none

module _ (numbers : NumbersAll) where
  type_has : (names : Names) (reg : Bool) (at : ℕ) (name : List ℕ) (type : Shape) → type_faults names reg at name type ≡ [] → shape_widths names type ≡ [] → HasWidth names type
  type_has names reg at name (Vector c) none sized = let k = vector_known names reg at name c none sized in (k.0, k.2)
  type_has names reg at name (Array n c) none sized = let k = array_known numbers names reg at name n c none sized in (k.element.0, k.bits, k.element.2, k.place)

  port_has : (names : Names) (ports : List Port) → port_faults names ports ≡ [] → port_widths names ports ≡ [] → (q : Port) → IsIn q ports → HasWidth names q.shape
  port_has names [] none sized q is = absurd is
  port_has names (p ∷ ports) none sized q (inl same) =
      let a = both_none (type_faults names false p.at p.name p.shape) (port_faults names ports) none in
      let b = both_none (shape_widths names p.shape) (port_widths names ports) sized in
      subst (λ (k : Port). HasWidth names k.shape) (sym same) (type_has names false p.at p.name p.shape a.0 b.0)
  port_has names (p ∷ ports) none sized q (inr later) =
      port_has names ports (both_none (type_faults names false p.at p.name p.shape) (port_faults names ports) none).1 (both_none (shape_widths names p.shape) (port_widths names ports) sized).1 q later

  local_sized : (names : Names) (ls : List Local) → local_widths names ls ≡ [] → (l : Local) → IsIn l ls → kind_widths names l.kind ≡ []
  local_sized names [] sized l is = absurd is
  local_sized names (k ∷ ls) sized l (inl same) = subst (λ (j : Local). kind_widths names j.kind ≡ []) (sym same) (both_none (kind_widths names k.kind) (local_widths names ls) sized).0
  local_sized names (k ∷ ls) sized l (inr later) = local_sized names ls (both_none (kind_widths names k.kind) (local_widths names ls) sized).1 l later

  module _ (earlier : List ModuleTree) (m : ModuleTree) (clean : IsClean (seen_behind earlier) m) (so : (name : List ℕ) (p : Path) → AllHave (signals_inside earlier name p)) where
    kind_has : (at : ℕ) (name : List ℕ) (q : Path) (k : LocalKind) → kind_faults (names_of m) (seen_behind earlier) (clock_in (seen_behind earlier) m) at name k ≡ [] → kind_widths (names_of m) k ≡ [] → AllHave (kind_signals (signals_inside earlier) (names_of m) q k)
    kind_has at name q (Reg under type) none sized x (inl same) =
        subst (λ (k : Signal). HasWidth k.names k.type) (sym same)
        (type_has (names_of m) true at name type (both_none (no_clock (names_of m) (clock_in (seen_behind earlier) m) under.at under.name (names_of m under.name)) (type_faults (names_of m) true at name type) none).1 sized)
    kind_has at name q (Reg under type) none sized x (inr absent) = absurd absent
    kind_has at name q (Var type) none sized x (inl same) = subst (λ (k : Signal). HasWidth k.names k.type) (sym same) (type_has (names_of m) false at name type none sized)
    kind_has at name q (Var type) none sized x (inr absent) = absurd absent
    kind_has at name q (Inst of) none sized x there = so of.name q x there

    locals_have : (p : Path) → AllHave (local_signals (signals_inside earlier) (names_of m) p m.locals)
    locals_have p x there =
        let f = from_flat_map (λ (l : Local). kind_signals (signals_inside earlier) (names_of m) (p ++ l.name ∷ []) l.kind) x m.locals there in
        kind_has f.0.at f.0.name (p ++ f.0.name ∷ []) f.0.kind (local_clean (names_of m) (seen_behind earlier) (clock_in (seen_behind earlier) m) m.locals clean.locals f.0 f.1) (local_sized (names_of m) m.locals clean.wide_locals f.0 f.1) x f.2

    instance_have : (clocks : List (List ℕ)) (p : Path) → AllHave (instance_ports (names_of m) clocks p m.ports)
    instance_have clocks p x there =
        let f = from_flat_map (instance_port (names_of m) clocks p) x m.ports there in
        subst (λ (k : Signal). HasWidth k.names k.type) (sym (shown_same f.0.way (is_among clocks f.0.name) (record { path = p ++ f.0.name ∷ []; kind = wire; names = names_of m; type = f.0.shape }) x f.2))
        (port_has (names_of m) m.ports clean.ports clean.wide_ports f.0 f.1)

    root_have : (clocks : List (List ℕ)) → AllHave (root_ports (names_of m) clocks m.ports)
    root_have clocks x there =
        let f = from_map (root_port (names_of m) clocks) x m.ports there in
        subst (λ (k : Signal). HasWidth k.names k.type) (sym f.2) (port_has (names_of m) m.ports clean.ports clean.wide_ports f.0 f.1)

  inside_have : (ms : List ModuleTree) → AllClean ms → (name : List ℕ) (p : Path) → AllHave (signals_inside ms name p)
  inside_have [] clean name p = λ x there. absurd there
  inside_have (m ∷ earlier) clean name p = by_test (bytes_eq m.name name)
      (both_have (instance_ports (names_of m) (clocks_in (clock_ports earlier) m) p m.ports) (local_signals (signals_inside earlier) (names_of m) p m.locals)
      (instance_have earlier m clean.0 (inside_have earlier clean.1) (clocks_in (clock_ports earlier) m) p) (locals_have earlier m clean.0 (inside_have earlier clean.1) p))
      (inside_have earlier clean.1 name p)
    where
      by_test : (b : Bool) → AllHave (signals_at (clock_ports earlier) (signals_inside earlier) m p) → AllHave (signals_inside earlier name p) → AllHave (if b then signals_at (clock_ports earlier) (signals_inside earlier) m p else signals_inside earlier name p)
      by_test true here later = here
      by_test false here later = later

  all_have : (ms : List ModuleTree) → AllClean ms → AllHave (root_signals ms)
  all_have [] clean = λ x there. absurd there
  all_have (m ∷ earlier) clean =
      both_have (root_ports (names_of m) (clocks_in (clock_ports earlier) m) m.ports) (local_signals (signals_inside earlier) (names_of m) [] m.locals)
      (root_have earlier m clean.0 (inside_have earlier clean.1) (clocks_in (clock_ports earlier) m)) (locals_have earlier m clean.0 (inside_have earlier clean.1) [])

  pub signals_have : (S : SourceTree) → AllClean (reverse S.modules) → (x : Signal) → IsIn x (signals S) → HasWidth x.names x.type
  signals_have S clean = all_have (reverse S.modules) clean
