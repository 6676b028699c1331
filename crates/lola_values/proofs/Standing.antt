-- Each module of a well sized design at its path: its signals are those of the design, and it is called as one is.
use Rattle.std.proofs.Common.{◌≡◌, ◌≢◌, ℕ, Bool, true, false, List, [], ◌∷◌, ◌++◌, reverse, Option, Some, None, refl, sym, ◌∙◌, ap, subst, inl, inr}
use Rattle.std.specs.Prelude.{bytes_eq}
use Rattle.std.specs.List.{AllByRecursion}
use Rattle.std.proofs.lemmas.Bool.{cases_Bool, cond-true, cond-false}
use Rattle.lola_bits.specs.Lists.{IsIn}
use Rattle.lola_bits.proofs.Lists.{in_front, in_back, in_either, to_map, to_flat_map}
use Rattle.lola_bits.specs.Names.{is_among}
use Rattle.lola_tree.specs.declared.named.Named.{Named}
use Rattle.lola_tree.specs.declared.named.Shape.{Shape}
use Rattle.lola_tree.specs.declared.module.Way.{Way}
use Rattle.lola_tree.specs.declared.module.Way.TheVariants.{Inward, Outward, Both}
use Rattle.lola_tree.specs.declared.module.Port.{Port}
use Rattle.lola_tree.specs.declared.module.LocalKind.{LocalKind}
use Rattle.lola_tree.specs.declared.module.LocalKind.TheVariants.{Reg, Var, Inst}
use Rattle.lola_tree.specs.declared.module.Local.{Local}
use Rattle.lola_tree.specs.Names.{Names, names_of}
use Rattle.lola_tree.specs.Tree.{ModuleTree, SourceTree}
use Rattle.lola_tree.specs.Value.{Path}
use Rattle.lola_tree.specs.design.Calls.{args_of}
use Rattle.lola_tree.specs.design.Clocks.{clocks_in, clock_ports}
use Rattle.lola_tree.specs.design.Places.{Pads, own_pads, passed_pads, Caller, Place, kind_places, local_places, places_at, places_inside, root_places, places}
use Rattle.lola_tree.specs.design.Signals.{Kind, clock, input, pad, wire, register, Signal, root_kind, root_port, root_ports, shown_port, instance_port, instance_ports, kind_signals, local_signals, signals_at, signals_inside, root_signals, signals}
use Rattle.lola_width.specs.Sized.{pins_in}
use Rattle.lola_regular.specs.Clocked.{seen_behind, IsClocked, AreClocked}
use Rattle.lola_regular.specs.Written.{IsWrittenModule}
use Rattle.lola_regular.proofs.Clean.{IsClean, AllClean, seen_here, seen_further}

-- a signal of the design with this path, type and names
pub record Shown (S : SourceTree) (path : Path) (type : Shape) (names : Names) : Type 0 where
  pub signal : Signal
  pub there : IsIn signal (signals S)
  pub path_is : signal.path ≡ path
  pub type_is : signal.type ≡ type
  pub names_are : signal.names ≡ names
  pub no_clock : signal.kind ≢ clock

-- what a local name is among the signals
abbrev pub IsLocalShown : SourceTree → Path → Names → LocalKind → Type 0
IsLocalShown S q names (Reg under type) = (x : Shown S q type names) × (x.signal.kind ≡ register)
IsLocalShown S q names (Var type) = Shown S q type names
IsLocalShown S q names (Inst of) = Unit {0}

-- a port but the clock is a signal
abbrev pub IsPortShown : SourceTree → Path → Names → List (List ℕ) → Port → Type 0
IsPortShown S p names clocks q = (q.way ≡ Inward → is_among clocks q.name ≡ false) → Shown S (p ++ q.name ∷ []) q.shape names

-- a module at a path
pub record Stands (S : SourceTree) (m : ModuleTree) (p : Path) (clocks : List (List ℕ)) : Type 0 where
  pub earlier : List ModuleTree
  pub clean : IsClean (seen_behind earlier) m
  pub written : IsWrittenModule m
  pub clocked : IsClocked earlier m
  pub clocks_are : clocks ≡ clocks_in (clock_ports earlier) m
  pub port : (q : Port) → IsIn q m.ports → IsPortShown S p (names_of m) clocks q
  pub local : (l : Local) → IsIn l m.locals → IsLocalShown S (p ++ l.name ∷ []) (names_of m) l.kind

-- how it is called
pub record IsCalled (S : SourceTree) (a : Place) (c : Caller) : Type 0 where
  pub earlier : List ModuleTree
  pub behind : List ModuleTree
  pub clocks : List (List ℕ)
  pub stands : Stands S c.module_ c.path clocks
  pub same : stands.earlier ≡ earlier
  pub instance : Local
  pub of : Named
  pub there : IsIn instance c.module_.locals
  pub kind : instance.kind ≡ Inst of
  pub args : c.args ≡ args_of c.module_.body instance.name
  pub pins : seen_behind earlier of.name ≡ Some (pins_in (seen_behind behind) a.module_)

abbrev pub IsCalledBy : SourceTree → Place → Option Caller → Type 0
IsCalledBy S a None = Unit {0}
IsCalledBy S a (Some c) = (k : IsCalled S a c) × ((s : Stands S a.module_ a.path a.clocks) × (s.earlier ≡ k.behind))

pub record PlaceStands (S : SourceTree) (a : Place) : Type 0 where
  pub stands : Stands S a.module_ a.path a.clocks
  pub called : IsCalledBy S a a.caller

abbrev Within : SourceTree → List Signal → Type 0
Within S xs = (x : Signal) → IsIn x xs → IsIn x (signals S)

-- the signals of ports and local names
no_wire_clock : wire ≢ clock
no_wire_clock e = let f : is_wire wire ≡ is_wire clock = ap is_wire e in absurd (let g : true ≡ false = f in cc)
  where
    is_wire : Kind → Bool
    is_wire wire = true
    is_wire pad = false
    is_wire input = false
    is_wire register = false
    is_wire clock = false

show_port : (S : SourceTree) (w : Way) (b : Bool) (x : Signal) → x.kind ≡ wire → (w ≡ Inward → b ≡ false) → Within S (shown_port w b x) → Shown S x.path x.type x.names
show_port S Inward true x kind open_ within = absurd (let e : true ≡ false = open_ refl in cc)
show_port S Inward false x kind open_ within = record { signal = x; there = within x (inl refl); path_is = refl; type_is = refl; names_are = refl; no_clock = λ e. no_wire_clock (sym kind ∙ e) }
show_port S Outward b x kind open_ within = record { signal = x; there = within x (inl refl); path_is = refl; type_is = refl; names_are = refl; no_clock = λ e. no_wire_clock (sym kind ∙ e) }
show_port S Both b x kind open_ within = record { signal = x; there = within x (inl refl); path_is = refl; type_is = refl; names_are = refl; no_clock = λ e. no_wire_clock (sym kind ∙ e) }

no_clock_kind : (w : Way) (b : Bool) → (w ≡ Inward → b ≡ false) → root_kind w b ≢ clock
no_clock_kind Inward true open_ = absurd (let e : true ≡ false = open_ refl in cc)
no_clock_kind Inward false open_ = λ e. absurd (let f : is_in input ≡ is_in clock = ap is_in e in let g : true ≡ false = f in cc)
  where
    is_in : Kind → Bool
    is_in input = true
    is_in clock = false
    is_in wire = false
    is_in pad = false
    is_in register = false
no_clock_kind Outward b open_ = no_wire_clock
no_clock_kind Both b open_ = λ e. absurd (let f : is_pad pad ≡ is_pad clock = ap is_pad e in let g : true ≡ false = f in cc)
  where
    is_pad : Kind → Bool
    is_pad pad = true
    is_pad clock = false
    is_pad wire = false
    is_pad input = false
    is_pad register = false

no_register_clock : register ≢ clock
no_register_clock e = let f : is_stored register ≡ is_stored clock = ap is_stored e in absurd (let g : true ≡ false = f in cc)
  where
    is_stored : Kind → Bool
    is_stored register = true
    is_stored wire = false
    is_stored pad = false
    is_stored input = false
    is_stored clock = false

show_local : (S : SourceTree) (inside : List ℕ → Path → List Signal) (names : Names) (q : Path) (k : LocalKind) → Within S (kind_signals inside names q k) → IsLocalShown S q names k
show_local S inside names q (Reg under type) within =
    let x : Signal = record { path = q; kind = register; names = names; type = type } in
    (record { signal = x; there = within x (inl refl); path_is = refl; type_is = refl; names_are = refl; no_clock = no_register_clock }, refl)
show_local S inside names q (Var type) within =
    let x : Signal = record { path = q; kind = wire; names = names; type = type } in
    record { signal = x; there = within x (inl refl); path_is = refl; type_is = refl; names_are = refl; no_clock = no_wire_clock }
show_local S inside names q (Inst of) within = tt

module _ (S : SourceTree) where
  local_within : (inside : List ℕ → Path → List Signal) (names : Names) (p : Path) (ls : List Local) → Within S (local_signals inside names p ls) → (l : Local) → IsIn l ls → Within S (kind_signals inside names (p ++ l.name ∷ []) l.kind)
  local_within inside names p ls within l there x is = within x (to_flat_map (λ (k : Local). kind_signals inside names (p ++ k.name ∷ []) k.kind) x l ls there is)

  abbrev instance_stands : (earlier : List ModuleTree) (m : ModuleTree) (p : Path) → IsClean (seen_behind earlier) m → IsWrittenModule m → IsClocked earlier m → Within S (signals_at (clock_ports earlier) (signals_inside earlier) m p) →
      Stands S m p (clocks_in (clock_ports earlier) m)
  instance_stands earlier m p clean written clocked within =
      let clocks = clocks_in (clock_ports earlier) m in
      let ports = instance_ports (names_of m) clocks p m.ports in
      let locals = local_signals (signals_inside earlier) (names_of m) p m.locals in
      record {
        earlier = earlier;
        clean = clean;
        written = written;
        clocked = clocked;
        clocks_are = refl;
        port = λ q there open_. show_port S q.way (is_among clocks q.name) (record { path = p ++ q.name ∷ []; kind = wire; names = names_of m; type = q.shape }) refl open_
            (λ x is. within x (in_front x ports locals (to_flat_map (instance_port (names_of m) clocks p) x q m.ports there is)));
        local = λ l there. show_local S (signals_inside earlier) (names_of m) (p ++ l.name ∷ []) l.kind
            (local_within (signals_inside earlier) (names_of m) p m.locals (λ x is. within x (in_back x ports locals is)) l there);
      }

  abbrev root_stands : (earlier : List ModuleTree) (m : ModuleTree) → IsClean (seen_behind earlier) m → IsWrittenModule m → IsClocked earlier m → Within S (root_signals (m ∷ earlier)) → Stands S m [] (clocks_in (clock_ports earlier) m)
  root_stands earlier m clean written clocked within =
      let clocks = clocks_in (clock_ports earlier) m in
      let ports = root_ports (names_of m) clocks m.ports in
      let locals = local_signals (signals_inside earlier) (names_of m) [] m.locals in
      record {
        earlier = earlier;
        clean = clean;
        written = written;
        clocked = clocked;
        clocks_are = refl;
        port = λ q there open_.
            let x = root_port (names_of m) clocks q in
            record { signal = x; there = within x (in_front x ports locals (to_map (root_port (names_of m) clocks) q m.ports there)); path_is = refl; type_is = refl; names_are = refl; no_clock = no_clock_kind q.way (is_among clocks q.name) open_ };
        local = λ l there. show_local S (signals_inside earlier) (names_of m) (l.name ∷ []) l.kind
            (local_within (signals_inside earlier) (names_of m) [] m.locals (λ x is. within x (in_back x ports locals is)) l there);
      }

  -- how the places of an earlier module are reached
  pub record Reaches (ms : List ModuleTree) (name : List ℕ) (c : Caller) : Type 0 where
    pub earlier : List ModuleTree
    pub clocks : List (List ℕ)
    pub stands : Stands S c.module_ c.path clocks
    pub same : stands.earlier ≡ earlier
    pub instance : Local
    pub of : Named
    pub there : IsIn instance c.module_.locals
    pub kind : instance.kind ≡ Inst of
    pub args : c.args ≡ args_of c.module_.body instance.name
    pub pins : seen_behind earlier of.name ≡ seen_behind ms name

  abbrev AllStand : List Place → Type 0
  AllStand as_ = (a : Place) → IsIn a as_ → PlaceStands S a

  both_stand : (xs ys : List Place) → AllStand xs → AllStand ys → AllStand (xs ++ ys)
  both_stand xs ys p q a is = elim (in_either a xs ys is) [ inl front ↦ p a front | inr back ↦ q a back ]

  abbrev InsideStands : List ModuleTree → Type 0
  InsideStands ms = (name : List ℕ) (p : Path) (c : Caller) → Reaches ms name c → Within S (signals_inside ms name p) → AllStand (places_inside ms name p c)

  kind_stands : (earlier : List ModuleTree) → InsideStands earlier → (m : ModuleTree) (p : Path) (clocks : List (List ℕ)) (s : Stands S m p clocks) → s.earlier ≡ earlier → (pads : Pads) (l : Local) → IsIn l m.locals →
      (k : LocalKind) → l.kind ≡ k → Within S (kind_signals (signals_inside earlier) (names_of m) (p ++ l.name ∷ []) k) → AllStand (kind_places (places_inside earlier) m p pads l.name k)
  kind_stands earlier so m p clocks s same pads l there (Reg under type) kind within = λ a is. absurd is
  kind_stands earlier so m p clocks s same pads l there (Var type) kind within = λ a is. absurd is
  kind_stands earlier so m p clocks s same pads l there (Inst of) kind within =
      so of.name (p ++ l.name ∷ []) (record { module_ = m; path = p; pads = pads; args = args_of m.body l.name })
      (record { earlier = earlier; clocks = clocks; stands = s; same = same; instance = l; of = of; there = there; kind = kind; args = refl; pins = refl }) within

  locals_stand : (earlier : List ModuleTree) → InsideStands earlier → (m : ModuleTree) (p : Path) (clocks : List (List ℕ)) (s : Stands S m p clocks) → s.earlier ≡ earlier → (pads : Pads) (ls : List Local) →
      ((l : Local) → IsIn l ls → IsIn l m.locals) → Within S (local_signals (signals_inside earlier) (names_of m) p ls) → AllStand (local_places (places_inside earlier) m p pads ls)
  locals_stand earlier so m p clocks s same pads [] sub within = λ a is. absurd is
  locals_stand earlier so m p clocks s same pads (l ∷ ls) sub within =
      let here = kind_signals (signals_inside earlier) (names_of m) (p ++ l.name ∷ []) l.kind in
      let rest = local_signals (signals_inside earlier) (names_of m) p ls in
      both_stand (kind_places (places_inside earlier) m p pads l.name l.kind) (local_places (places_inside earlier) m p pads ls)
      (kind_stands earlier so m p clocks s same pads l (sub l (inl refl)) l.kind refl (λ x is. within x (in_front x here rest is)))
      (locals_stand earlier so m p clocks s same pads ls (λ k is. sub k (inr is)) (λ x is. within x (in_back x here rest is)))

  entered_stand : (earlier : List ModuleTree) (m : ModuleTree) → AllClean (m ∷ earlier) → IsWrittenModule m → IsClocked earlier m → InsideStands earlier → (name : List ℕ) → bytes_eq m.name name ≡ true →
      (p : Path) (c : Caller) → Reaches (m ∷ earlier) name c → Within S (signals_at (clock_ports earlier) (signals_inside earlier) m p) →
      AllStand (places_at (clock_ports earlier) (places_inside earlier) m p (Some c) (passed_pads c.pads m.ports c.args))
  entered_stand earlier m clean written clocked so name found p c r within a (inl here) =
      let s = instance_stands earlier m p clean.0 written clocked within in
      let b : Place = record { module_ = m; path = p; clocks = clocks_in (clock_ports earlier) m; pads = passed_pads c.pads m.ports c.args; caller = Some c } in
      let k : IsCalled S b c = record {
        earlier = r.earlier;
        behind = earlier;
        clocks = r.clocks;
        stands = r.stands;
        same = r.same;
        instance = r.instance;
        of = r.of;
        there = r.there;
        kind = r.kind;
        args = r.args;
        pins = r.pins ∙ seen_here m earlier name clean found;
      } in
      subst (λ (q : Place). PlaceStands S q) (sym here) (record { stands = s; called = (k, (s, refl)) })
  entered_stand earlier m clean written clocked so name found p c r within a (inr later) =
      let s = instance_stands earlier m p clean.0 written clocked within in
      let clocks = clocks_in (clock_ports earlier) m in
      locals_stand earlier so m p clocks s refl (passed_pads c.pads m.ports c.args) m.locals (λ l is. is)
      (λ x is. within x (in_back x (instance_ports (names_of m) clocks p m.ports) (local_signals (signals_inside earlier) (names_of m) p m.locals) is)) a later

  inside_stand : (ms : List ModuleTree) → AllClean ms → AllByRecursion IsWrittenModule ms → AreClocked ms → InsideStands ms
  inside_stand [] clean written clocked name p c r within = λ a is. absurd is
  inside_stand (m ∷ earlier) clean written clocked name p c r within = elim (cases_Bool (bytes_eq m.name name)) [
    | inl found ↦
        let here = places_at (clock_ports earlier) (places_inside earlier) m p (Some c) (passed_pads c.pads m.ports c.args) in
        let at = signals_at (clock_ports earlier) (signals_inside earlier) m p in
        subst AllStand (sym (cond-true (bytes_eq m.name name) here (places_inside earlier name p c) found))
        (entered_stand earlier m clean written.0 clocked.0 (inside_stand earlier clean.1 written.1 clocked.1) name found p c r
        (subst (Within S) (cond-true (bytes_eq m.name name) at (signals_inside earlier name p) found) within))
    | inr other ↦
        let here = places_at (clock_ports earlier) (places_inside earlier) m p (Some c) (passed_pads c.pads m.ports c.args) in
        let at = signals_at (clock_ports earlier) (signals_inside earlier) m p in
        subst AllStand (sym (cond-false (bytes_eq m.name name) here (places_inside earlier name p c) other))
        (inside_stand earlier clean.1 written.1 clocked.1 name p c
        (record { earlier = r.earlier; clocks = r.clocks; stands = r.stands; same = r.same; instance = r.instance; of = r.of; there = r.there; kind = r.kind; args = r.args; pins = r.pins ∙ seen_further m earlier name other })
        (subst (Within S) (cond-false (bytes_eq m.name name) at (signals_inside earlier name p) other) within))
  ]

  root_all : (ms : List ModuleTree) → AllClean ms → AllByRecursion IsWrittenModule ms → AreClocked ms → Within S (root_signals ms) → AllStand (root_places ms)
  root_all [] clean written clocked within = λ a is. absurd is
  root_all (m ∷ earlier) clean written clocked within = λ a is. elim is [
    | inl here ↦ subst (λ (q : Place). PlaceStands S q) (sym here) (record { stands = root_stands earlier m clean.0 written.0 clocked.0 within; called = tt })
    | inr later ↦
        let clocks = clocks_in (clock_ports earlier) m in
        locals_stand earlier (inside_stand earlier clean.1 written.1 clocked.1) m [] clocks (root_stands earlier m clean.0 written.0 clocked.0 within) refl (own_pads m.ports) m.locals (λ l is. is)
        (λ x is. within x (in_back x (root_ports (names_of m) clocks m.ports) (local_signals (signals_inside earlier) (names_of m) [] m.locals) is)) a later
  ]

pub all_stand : (S : SourceTree) → AllClean (reverse S.modules) → AllByRecursion IsWrittenModule (reverse S.modules) → AreClocked (reverse S.modules) → (a : Place) → IsIn a (places S) → PlaceStands S a
all_stand S clean written clocked = root_all S (reverse S.modules) clean written clocked (λ x is. is)
