-- A well sized design with registers has a clock: one port of one bit.
use Rattle.std.proofs.Common.{◌≡◌, ℕ, ◌≤◌, Bool, true, false, cond, List, [], ◌∷◌, ◌++◌, map, length, reverse, Option, Some, None, refl, sym, ◌∙◌, ap, ap₂, subst, inl, inr, arith}
use Rattle.std.specs.Prelude.{bytes_eq, if◌then◌else◌}
use Rattle.std.proofs.lemmas.Bool.{and_parts, false≢true}
use Rattle.std.proofs.lemmas.List.{length-map}
use Rattle.lola_bits.specs.Lists.{IsIn}
use Rattle.lola_bits.specs.Names.{is_among}
use Rattle.lola_bits.proofs.Lists.{in_front, in_back, in_either, from_map, to_map, from_flat_map, to_flat_map}
use Rattle.lola_bits.proofs.Names.{among, is_in}
use Rattle.lola_bits.proofs.Options.{some_same}
use Rattle.lola_bits.proofs.Tests.{chosen}
use Rattle.lola_tree.specs.declared.named.Shape.{Shape}
use Rattle.lola_tree.specs.declared.named.Shape.TheVariants.{Vector, Array}
use Rattle.lola_tree.specs.declared.module.Way.{Way}
use Rattle.lola_tree.specs.declared.module.Way.TheVariants.{Inward, Outward, Both}
use Rattle.lola_tree.specs.declared.module.Port.{Port}
use Rattle.lola_tree.specs.declared.module.LocalKind.{LocalKind}
use Rattle.lola_tree.specs.declared.module.LocalKind.TheVariants.{Reg, Var, Inst}
use Rattle.lola_tree.specs.declared.module.Local.{Local}
use Rattle.lola_tree.specs.Names.{Entry, port, Names, names_of, count_number, ref_name}
use Rattle.lola_tree.specs.declared.named.Ref.{Ref}
use Rattle.lola_tree.specs.Tree.{ActualTree, StmtTree, assignment, call, ModuleTree, SourceTree}
use Rattle.lola_tree.specs.Tree as tree
use Rattle.lola_tree.specs.Value.{Path}
use Rattle.lola_tree.specs.Signals.{is_inward}
use Rattle.lola_tree.specs.Width.{vector_width, checked_width}
use Rattle.lola_tree.specs.design.Calls.{args_of, bare_name}
use Rattle.lola_tree.specs.design.Clocks.{passed_clocks, kind_clocks, clocks_in, clock_ports}
use Rattle.lola_tree.specs.design.Signals.{Kind, clock, wire, register, Signal, root_kind, root_port, root_ports, shown_port, instance_port, instance_ports, kind_signals, local_signals, signals_at, signals_inside, root_signals, signals, signal_paths}
use Rattle.lola_tree.specs.design.Cycle.{IsSignal}
use Rattle.lola_width.specs.declared.interface.Pin.{Pin}
use Rattle.lola_width.specs.Interface.{Seen, or_first, instance_pins, listed, first_pin, later_pins, is_one, is_bit, is_clock_port, clock_named, bare_clock, arg_clock, args_clock, stmt_clock, body_clock}
use Rattle.lola_width.specs.Interface.{bare_name as bare_ref, kind_clock as kind_clock_in, locals_clock as locals_clock_in}
use Rattle.lola_width.specs.Sized.{clock_in}
use Rattle.lola_design.specs.Paths.{count}
use Rattle.lola_design.specs.Assigned.{port_count, CallsFit, AllCallsFit, AreAssigned}
use Rattle.lola_design.proofs.Found.{one_signal}
use Rattle.lola_regular.specs.Clocked.{seen_behind, IsClocked, AreClocked}
use Rattle.lola_regular.proofs.Named.{are_distinct, port_named}
use Rattle.lola_regular.proofs.Clean.{IsClean, AllClean}
use Rattle.lola_regular.proofs.Ways.{clock_port_is}
use Rattle.lola_values.proofs.Widths.{equal_is}
use Rattle.lola_meaning.specs.Typed.{ClockFits}
use Rattle.lola_meaning.proofs.KindTests.{IsClockKind, IsStoredKind}
use Rattle.lola_meaning.proofs.RootPorts.{IsOuter, roots_are, locals_inside, all_inside}

-- the name that is a clock may be one
abbrev MayBe : Names → Option (List ℕ) → Type 0
MayBe names o = (c : List ℕ) → o ≡ Some c → is_clock_port names (names c) ≡ true

none_may : (names : Names) → MayBe names None
none_may names c e = absurd (let f : None ≡ Some c = e in cc)

first_may : (names : Names) (a b : Option (List ℕ)) → MayBe names a → MayBe names b → MayBe names (or_first a b)
first_may names None b p q = q
first_may names (Some x) b p q = p

pick_may : (names : Names) (b : Bool) (o : Option (List ℕ)) → MayBe names o → MayBe names (cond b o None)
pick_may names true o p = p
pick_may names false o p = none_may names

named_may : (names : Names) (n : List ℕ) → MayBe names (clock_named names n)
named_may names n c e = let k = chosen (is_clock_port names (names n)) n c e in subst (λ (m : List ℕ). is_clock_port names (names m) ≡ true) k.1 k.0

locals_may : (names : Names) (ls : List Local) → MayBe names (locals_clock_in names ls)
locals_may names [] = none_may names
locals_may names (l ∷ ls) = first_may names (kind_clock_in names l.kind) (locals_clock_in names ls) (kind_may l.kind) (locals_may names ls)
  where
    kind_may : (k : LocalKind) → MayBe names (kind_clock_in names k)
    kind_may (Reg under type) = named_may names under.name
    kind_may (Var type) = none_may names
    kind_may (Inst of) = none_may names

args_may : (names : Names) (args : List ActualTree) (pins : List Pin) → MayBe names (args_clock names args pins)
args_may names [] pins = none_may names
args_may names (a ∷ args) pins = first_may names (arg_clock names (first_pin pins) a.value) (args_clock names args (later_pins pins)) (arg_may (first_pin pins)) (args_may names args (later_pins pins))
  where
    bare_may : (r : Option Ref) → MayBe names (bare_clock names r)
    bare_may None = none_may names
    bare_may (Some of) = named_may names (ref_name of)

    arg_may : (pin : Option Pin) → MayBe names (arg_clock names pin a.value)
    arg_may None = none_may names
    arg_may (Some pin) = pick_may names pin.clock (bare_clock names (bare_ref a.value)) (bare_may (bare_ref a.value))

body_may : (names : Names) (seen : Seen) (ts : List StmtTree) → MayBe names (body_clock names seen ts)
body_may names seen [] = none_may names
body_may names seen (t ∷ ts) = first_may names (stmt_clock names seen t) (body_clock names seen ts) (stmt_may t) (body_may names seen ts)
  where
    stmt_may : (t : StmtTree) → MayBe names (stmt_clock names seen t)
    stmt_may (assignment name place value at equals) = none_may names
    stmt_may (call name args at) = args_may names args (listed (instance_pins seen (names name)))
    stmt_may (tree.pad io inner value release at) = none_may names

module_may : (seen : Seen) (m : ModuleTree) → MayBe (names_of m) (clock_in seen m)
module_may seen m = first_may (names_of m) (locals_clock_in (names_of m) m.locals) (body_clock (names_of m) seen m.body) (locals_may (names_of m) m.locals) (body_may (names_of m) seen m.body)

-- an argument stands for each port, so a clock port has one
passed_some : (ports : List Bool) (args : List ActualTree) → IsIn true ports → length ports ≡ length args → (n : List ℕ) × IsIn n (passed_clocks ports args)
passed_some [] args is long = absurd is
passed_some (b ∷ ports) [] is long = absurd (omega arith)
passed_some (b ∷ ports) (a ∷ args) (inl same) long = (bare_name a.value, in_front (bare_name a.value) (if b then bare_name a.value ∷ [] else []) (passed_clocks ports args) (subst (λ (c : Bool). IsIn (bare_name a.value) (if c then bare_name a.value ∷ [] else [])) same (inl refl)))
passed_some (b ∷ ports) (a ∷ args) (inr later) long =
    let r = passed_some ports args later (omega arith) in
    (r.0, in_back r.0 (if b then bare_name a.value ∷ [] else []) (passed_clocks ports args) r.1)

abbrev flags : List ModuleTree → ModuleTree → List Bool
flags earlier m = map (λ (p : Port). is_among (clocks_in (clock_ports earlier) m) p.name) m.ports

ports_by : (earlier : List ModuleTree) (m : ModuleTree) (name : List ℕ) (other : ℕ) → (IsIn true (clock_ports earlier name) → length (clock_ports earlier name) ≡ port_count earlier name other) → (b : Bool) →
    IsIn true (if b then flags earlier m else clock_ports earlier name) → length (if b then flags earlier m else clock_ports earlier name) ≡ (if b then length m.ports else port_count earlier name other)
ports_by earlier m name other so true is = length-map m.ports (λ (p : Port). is_among (clocks_in (clock_ports earlier) m) p.name)
ports_by earlier m name other so false is = so is

ports_long : (ms : List ModuleTree) (name : List ℕ) (other : ℕ) → IsIn true (clock_ports ms name) → length (clock_ports ms name) ≡ port_count ms name other
ports_long [] name other is = absurd is
ports_long (m ∷ earlier) name other is = ports_by earlier m name other (ports_long earlier name other) (bytes_eq m.name name) is

call_fits : (earlier : List ModuleTree) (m : ModuleTree) (ls : List Local) → AllCallsFit earlier m ls → (l : Local) → IsIn l ls → CallsFit earlier m l.kind l.name
call_fits earlier m [] all l is = absurd is
call_fits earlier m (k ∷ ls) all l (inl same) = subst (λ (j : Local). CallsFit earlier m j.kind j.name) (sym same) all.0
call_fits earlier m (k ∷ ls) all l (inr later) = call_fits earlier m ls all.1 l later

abbrev Stored : List ModuleTree → Type 0
Stored ms = (name : List ℕ) (p : Path) (x : Signal) → IsIn x (signals_inside ms name p) → IsStoredKind x.kind → IsIn true (clock_ports ms name)

-- a local name with a register, its own or an instance's, has a clock
kind_clock : (earlier : List ModuleTree) → Stored earlier → (m : ModuleTree) (q : Path) (name : List ℕ) (k : LocalKind) → CallsFit earlier m k name → (x : Signal) → IsIn x (kind_signals (signals_inside earlier) (names_of m) q k) → IsStoredKind x.kind →
    (n : List ℕ) × IsIn n (kind_clocks (clock_ports earlier) m.body name k)
kind_clock earlier so m q name (Reg under type) fit x there stored = (under.name, inl refl)
kind_clock earlier so m q name (Var type) fit x (inl same) stored = absurd (subst IsStoredKind (ap (λ (y : Signal). y.kind) same) stored)
kind_clock earlier so m q name (Var type) fit x (inr none) stored = absurd none
kind_clock earlier so m q name (Inst of) fit x there stored =
    let is = so of.name q x there stored in
    passed_some (clock_ports earlier of.name) (args_of m.body name) is (ports_long earlier of.name (length (args_of m.body name)) is ∙ fit)

locals_clock : (earlier : List ModuleTree) → Stored earlier → (m : ModuleTree) → AllCallsFit earlier m m.locals → (p : Path) (x : Signal) → IsIn x (local_signals (signals_inside earlier) (names_of m) p m.locals) → IsStoredKind x.kind →
    (n : List ℕ) × IsIn n (clocks_in (clock_ports earlier) m)
locals_clock earlier so m fit p x there stored =
    let f = from_flat_map (λ (l : Local). kind_signals (signals_inside earlier) (names_of m) (p ++ l.name ∷ []) l.kind) x m.locals there in
    let k = kind_clock earlier so m (p ++ f.0.name ∷ []) f.0.name f.0.kind (call_fits earlier m m.locals fit f.0 f.1) x f.2 stored in
    (k.0, to_flat_map (λ (l : Local). kind_clocks (clock_ports earlier) m.body l.name l.kind) k.0 f.0 m.locals f.1 k.1)

-- which is a port of the module
clock_port : (earlier : List ModuleTree) (m : ModuleTree) → IsClocked earlier m → (n : List ℕ) → IsIn n (clocks_in (clock_ports earlier) m) → (q : Port) × IsIn q m.ports × (is_among (clocks_in (clock_ports earlier) m) q.name ≡ true) × (q.way ≡ Inward)
clock_port earlier m clocked n is =
    let p = clock_port_is (seen_behind earlier) m n ((clocked n).0 is) in
    (p.0, p.1, among p.0.name (clocks_in (clock_ports earlier) m) (subst (λ (k : List ℕ). IsIn k (clocks_in (clock_ports earlier) m)) p.2 is), p.3)

-- the ports of an instance are wires
shown_wire : (w : Way) (b : Bool) (y x : Signal) → y.kind ≡ wire → IsIn x (shown_port w b y) → x.kind ≡ wire
shown_wire Inward true y x kind there = absurd there
shown_wire Inward false y x kind (inl same) = ap (λ (z : Signal). z.kind) same ∙ kind
shown_wire Inward false y x kind (inr none) = absurd none
shown_wire Outward b y x kind (inl same) = ap (λ (z : Signal). z.kind) same ∙ kind
shown_wire Outward b y x kind (inr none) = absurd none
shown_wire Both b y x kind (inl same) = ap (λ (z : Signal). z.kind) same ∙ kind
shown_wire Both b y x kind (inr none) = absurd none

ports_plain : (names : Names) (clocks : List (List ℕ)) (q : Path) (ports : List Port) (x : Signal) → IsIn x (instance_ports names clocks q ports) → IsStoredKind x.kind → ⊥
ports_plain names clocks q ports x there stored =
    let f = from_flat_map (instance_port names clocks q) x ports there in
    subst IsStoredKind (shown_wire f.0.way (is_among clocks f.0.name) (record { path = q ++ f.0.name ∷ []; kind = wire; names = names; type = f.0.shape }) x refl f.2) stored

-- an instance with a register has a clock port
own_clock : (earlier : List ModuleTree) → Stored earlier → (m : ModuleTree) → IsClocked earlier m → AllCallsFit earlier m m.locals → (p : Path) (x : Signal) → IsStoredKind x.kind → IsIn x (signals_at (clock_ports earlier) (signals_inside earlier) m p) → IsIn true (flags earlier m)
own_clock earlier so m clocked fit p x stored is = elim (in_either x (instance_ports (names_of m) (clocks_in (clock_ports earlier) m) p m.ports) (local_signals (signals_inside earlier) (names_of m) p m.locals) is) [
  | inl at_port ↦ absurd (ports_plain (names_of m) (clocks_in (clock_ports earlier) m) p m.ports x at_port stored)
  | inr inner ↦
      let n = locals_clock earlier so m fit p x inner stored in
      let q = clock_port earlier m clocked n.0 n.1 in
      subst (λ (b : Bool). IsIn b (flags earlier m)) q.2 (to_map (λ (q : Port). is_among (clocks_in (clock_ports earlier) m) q.name) q.0 m.ports q.1)
]

clock_by : (earlier : List ModuleTree) (m : ModuleTree) (name : List ℕ) (p : Path) (x : Signal) → (IsIn x (signals_at (clock_ports earlier) (signals_inside earlier) m p) → IsIn true (flags earlier m)) → (IsIn x (signals_inside earlier name p) → IsIn true (clock_ports earlier name)) →
    (b : Bool) → IsIn x (if b then signals_at (clock_ports earlier) (signals_inside earlier) m p else signals_inside earlier name p) → IsIn true (if b then flags earlier m else clock_ports earlier name)
clock_by earlier m name p x here later true is = here is
clock_by earlier m name p x here later false is = later is

inside_clock : (ms : List ModuleTree) → AreClocked ms → AreAssigned ms → Stored ms
inside_clock [] clocked are name p x there stored = absurd there
inside_clock (m ∷ earlier) clocked are name p x there stored =
    clock_by earlier m name p x (own_clock earlier (inside_clock earlier clocked.1 are.1) m clocked.0 are.0.calls p x stored) (λ is. inside_clock earlier clocked.1 are.1 name p x is stored) (bytes_eq m.name name) there

-- the clock of the root
root_clock : (ms : List ModuleTree) → AreClocked ms → AreAssigned ms → (x : Signal) → IsIn x (root_signals ms) → x.kind ≡ register → (y : Signal) × IsIn y (root_signals ms) × (y.kind ≡ clock)
root_clock [] clocked are x there kind = absurd there
root_clock (m ∷ earlier) clocked are x there kind =
    let clocks = clocks_in (clock_ports earlier) m in
    let ports = root_ports (names_of m) clocks m.ports in
    let locals = local_signals (signals_inside earlier) (names_of m) [] m.locals in
    elim (in_either x ports locals there) [
      | inl at_port ↦ absurd ((roots_are (names_of m) clocks m.ports x at_port).stored kind)
      | inr inner ↦
          let n = locals_clock earlier (inside_clock earlier clocked.1 are.1) m are.0.calls [] x inner (subst IsStoredKind (sym kind) tt) in
          let q = clock_port earlier m clocked.0 n.0 n.1 in
          (root_port (names_of m) clocks q.0, in_front (root_port (names_of m) clocks q.0) ports locals (to_map (root_port (names_of m) clocks) q.0 m.ports q.1), ap₂ root_kind q.3 q.2)
    ]

-- a clock is a port of one bit, whose name is the clock of the root
one_wide : (o : Option ℕ) → is_one o ≡ true → checked_width o ≡ Some 1
one_wide None e = absurd (false≢true e)
one_wide (Some n) e = let same : n ≡ 1 = equal_is n 1 e in ap (λ (k : ℕ). checked_width (Some k)) same

bit_wide : (names : Names) (type : Shape) → is_bit names type ≡ true → vector_width names (Some type) ≡ Some 1
bit_wide names (Vector c) e = one_wide (count_number names c) e
bit_wide names (Array n c) e = absurd (false≢true e)

clock_kind : (w : Way) (b : Bool) → IsClockKind (root_kind w b) → b ≡ true
clock_kind Inward true is = refl
clock_kind Inward false is = absurd is
clock_kind Outward b is = absurd is
clock_kind Both b is = absurd is

outer_clock : (k : Kind) → k ≡ clock → IsOuter k
outer_clock k e = subst IsOuter (sym e) tt

record IsRootClock (earlier : List ModuleTree) (m : ModuleTree) (x : Signal) : Type 0 where
  port : Port
  there : IsIn port m.ports
  is : x ≡ root_port (names_of m) (clocks_in (clock_ports earlier) m) port
  named : clock_in (seen_behind earlier) m ≡ Some port.name

is_root_clock : (earlier : List ModuleTree) (m : ModuleTree) → IsClocked earlier m → (x : Signal) → IsIn x (root_signals (m ∷ earlier)) → x.kind ≡ clock → IsRootClock earlier m x
is_root_clock earlier m clocked x there kind =
    let clocks = clocks_in (clock_ports earlier) m in
    let ports = root_ports (names_of m) clocks m.ports in
    let locals = local_signals (signals_inside earlier) (names_of m) [] m.locals in
    elim (in_either x ports locals there) [
      | inl at_port ↦
          let f = from_map (root_port (names_of m) clocks) x m.ports at_port in
          let is = clock_kind f.0.way (is_among clocks f.0.name) (subst IsClockKind (sym (sym (ap (λ (y : Signal). y.kind) f.2) ∙ kind)) tt) in
          record { port = f.0; there = f.1; is = f.2; named = (clocked f.0.name).0 (is_in f.0.name clocks is) }
      | inr inner ↦ absurd ((locals_inside (signals_inside earlier) (all_inside earlier) (names_of m) [] m.locals x inner).inner (outer_clock x.kind kind))
    ]

root_wide : (earlier : List ModuleTree) (m : ModuleTree) → IsClean (seen_behind earlier) m → (x : Signal) → IsRootClock earlier m x → vector_width x.names (Some x.type) ≡ Some 1
root_wide earlier m clean x c =
    let may : is_clock_port (names_of m) (names_of m c.port.name) ≡ true = module_may (seen_behind earlier) m c.port.name c.named in
    let bit : is_clock_port (names_of m) (Some (port c.port)) ≡ true = subst (λ (o : Option Entry). is_clock_port (names_of m) o ≡ true) (port_named m c.port (are_distinct m clean.doubled) c.there) may in
    let two = and_parts (is_inward c.port.way) (is_bit (names_of m) c.port.shape) bit in
    subst (λ (y : Signal). vector_width y.names (Some y.type) ≡ Some 1) (sym c.is) (bit_wide (names_of m) c.port.shape two.1)

root_same : (earlier : List ModuleTree) (m : ModuleTree) (x y : Signal) → IsRootClock earlier m x → IsRootClock earlier m y → x.path ≡ y.path
root_same earlier m x y a b =
    let same : a.port.name ≡ b.port.name = some_same a.port.name b.port.name (sym a.named ∙ b.named) in
    ap (λ (z : Signal). z.path) a.is ∙ ap (λ (n : List ℕ). n ∷ []) same ∙ sym (ap (λ (z : Signal). z.path) b.is)

module _ (S : SourceTree) (once : (x : Path) → count x (signal_paths S) ≤ 1) where
  clock_fits_in : (ms : List ModuleTree) → reverse S.modules ≡ ms → AllClean ms → AreClocked ms → AreAssigned ms → ClockFits S
  clock_fits_in [] is clean clocked are = record {
    wide = λ x there. absurd (subst (λ (l : List ModuleTree). IsIn x (root_signals l)) is there.0);
    one = λ x y there also. absurd (subst (λ (l : List ModuleTree). IsIn x (root_signals l)) is there.0);
    there = λ x there. absurd (subst (λ (l : List ModuleTree). IsIn x (root_signals l)) is there.0);
  }
  clock_fits_in (m ∷ earlier) is clean clocked are =
      let at = λ (x : Signal) (there : IsSignal S clock x). is_root_clock earlier m clocked.0 x (subst (λ (l : List ModuleTree). IsIn x (root_signals l)) is there.0) there.1 in
      record {
        wide = λ x there. root_wide earlier m clean.0 x (at x there);
        one = λ x y there also. one_signal (signals S) x y (once x.path) there.0 also.0 (root_same earlier m x y (at x there) (at y also));
        there = λ x there.
            let y = root_clock (m ∷ earlier) clocked are x (subst (λ (l : List ModuleTree). IsIn x (root_signals l)) is there.0) there.1 in
            (y.0, (subst (λ (l : List ModuleTree). IsIn y.0 (root_signals l)) (sym is) y.1, y.2));
      }

  pub clock_fits : AllClean (reverse S.modules) → AreClocked (reverse S.modules) → AreAssigned (reverse S.modules) → ClockFits S
  clock_fits clean clocked are = clock_fits_in (reverse S.modules) refl clean clocked are
