-- The signals of the root's ports come first, and no other signal is a port.
use Rattle.std.proofs.Common.{◌≡◌, ◌≢◌, ℕ, zero, suc, ◌+◌, ◌<◌, ◌≤◌, Bool, true, false, List, [], ◌∷◌, ◌++◌, length, reverse, Some, sym, ◌∙◌, ap, subst, ◌⊎◌, inl, inr, arith, length-append}
use Rattle.std.specs.Prelude.{bytes_eq, if◌then◌else◌, slice_get}
use Rattle.std.proofs.lemmas.Bool.{cases_lt}
use Rattle.std.proofs.lemmas.List.{length-map}
use Rattle.lola_bits.specs.Lists.{IsIn}
use Rattle.lola_bits.specs.Names.{is_among}
use Rattle.lola_bits.proofs.Lists.{in_either, from_map, from_flat_map}
use Rattle.lola_bits.proofs.Places.{get_in, get_within}
use Rattle.lola_tree.specs.declared.module.Way.{Way}
use Rattle.lola_tree.specs.declared.module.Way.TheVariants.{Inward, Outward, Both}
use Rattle.lola_tree.specs.declared.module.Port.{Port}
use Rattle.lola_tree.specs.declared.module.LocalKind.{LocalKind}
use Rattle.lola_tree.specs.declared.module.LocalKind.TheVariants.{Reg, Var, Inst}
use Rattle.lola_tree.specs.declared.module.Local.{Local}
use Rattle.lola_tree.specs.Names.{Names, names_of, first_name}
use Rattle.lola_tree.specs.Tree.{ModuleTree, SourceTree}
use Rattle.lola_tree.specs.Value.{Path}
use Rattle.lola_tree.specs.design.Clocks.{clocks_in, clock_ports}
use Rattle.lola_tree.specs.design.Signals.{Kind, clock, input, pad, wire, register, Signal, root_kind, root_port, root_ports, shown_port, instance_port, instance_ports, kind_signals, local_signals, signals_at, signals_inside, root_signals, signals}
use Rattle.lola_unfold.specs.Flat.{port_count}
use Rattle.lola_meaning.proofs.KindTests.{no_register}

-- what only the root's ports are
abbrev pub IsOuter : Kind → Type 0
IsOuter clock = Unit {0}
IsOuter input = Unit {0}
IsOuter pad = Unit {0}
IsOuter wire = ⊥
IsOuter register = ⊥

-- a signal inside: it has a path, and is a wire or a register
pub record IsInside (x : Signal) : Type 0 where
  pub named : x.path ≢ []
  pub inner : IsOuter x.kind → ⊥

abbrev pub AllInside : List Signal → Type 0
AllInside xs = (x : Signal) → IsIn x xs → IsInside x

-- a signal of a port of the root: it has its name alone, and is no register
pub record IsRootPort (x : Signal) : Type 0 where
  pub name : List ℕ
  pub path_is : x.path ≡ name ∷ []
  pub stored : x.kind ≢ register

some_path : (p : Path) (name : List ℕ) → p ++ name ∷ [] ≢ []
some_path [] name e = cc
some_path (n ∷ p) name e = cc

both_inside : (xs ys : List Signal) → AllInside xs → AllInside ys → AllInside (xs ++ ys)
both_inside xs ys p q x there = elim (in_either x xs ys there) [ inl front ↦ p x front | inr back ↦ q x back ]

shown_inside : (w : Way) (b : Bool) (y : Signal) → IsInside y → AllInside (shown_port w b y)
shown_inside Inward true y is x there = absurd there
shown_inside Inward false y is x (inl same) = subst IsInside (sym same) is
shown_inside Inward false y is x (inr none) = absurd none
shown_inside Outward b y is x (inl same) = subst IsInside (sym same) is
shown_inside Outward b y is x (inr none) = absurd none
shown_inside Both b y is x (inl same) = subst IsInside (sym same) is
shown_inside Both b y is x (inr none) = absurd none

ports_inside : (names : Names) (clocks : List (List ℕ)) (q : Path) (ports : List Port) → AllInside (instance_ports names clocks q ports)
ports_inside names clocks q ports x there =
    let f = from_flat_map (instance_port names clocks q) x ports there in
    shown_inside f.0.way (is_among clocks f.0.name) (record { path = q ++ f.0.name ∷ []; kind = wire; names = names; type = f.0.shape }) (record { named = some_path q f.0.name; inner = λ none. none }) x f.2

kind_inside : (inside : List ℕ → Path → List Signal) → ((name : List ℕ) (p : Path) → AllInside (inside name p)) → (names : Names) (p : Path) (name : List ℕ) (k : LocalKind) → AllInside (kind_signals inside names (p ++ name ∷ []) k)
kind_inside inside so names p name (Reg under type) x (inl same) = subst IsInside (sym same) (record { named = some_path p name; inner = λ none. none })
kind_inside inside so names p name (Reg under type) x (inr none) = absurd none
kind_inside inside so names p name (Var type) x (inl same) = subst IsInside (sym same) (record { named = some_path p name; inner = λ none. none })
kind_inside inside so names p name (Var type) x (inr none) = absurd none
kind_inside inside so names p name (Inst of) x there = so of.name (p ++ name ∷ []) x there

pub locals_inside : (inside : List ℕ → Path → List Signal) → ((name : List ℕ) (p : Path) → AllInside (inside name p)) → (names : Names) (p : Path) (ls : List Local) → AllInside (local_signals inside names p ls)
locals_inside inside so names p ls x there =
    let f = from_flat_map (λ (l : Local). kind_signals inside names (p ++ l.name ∷ []) l.kind) x ls there in
    kind_inside inside so names p f.0.name f.0.kind x f.2

pub all_inside : (ms : List ModuleTree) (name : List ℕ) (p : Path) → AllInside (signals_inside ms name p)
all_inside [] name p = λ x none. absurd none
all_inside (m ∷ earlier) name p = by_test (bytes_eq m.name name)
    (both_inside (instance_ports (names_of m) (clocks_in (clock_ports earlier) m) p m.ports) (local_signals (signals_inside earlier) (names_of m) p m.locals)
    (ports_inside (names_of m) (clocks_in (clock_ports earlier) m) p m.ports) (locals_inside (signals_inside earlier) (all_inside earlier) (names_of m) p m.locals))
    (all_inside earlier name p)
  where
    by_test : (b : Bool) → AllInside (signals_at (clock_ports earlier) (signals_inside earlier) m p) → AllInside (signals_inside earlier name p) →
        AllInside (if b then signals_at (clock_ports earlier) (signals_inside earlier) m p else signals_inside earlier name p)
    by_test true here later = here
    by_test false here later = later

root_no_register : (w : Way) (b : Bool) → root_kind w b ≢ register
root_no_register Inward true = no_register clock (λ none. none)
root_no_register Inward false = no_register input (λ none. none)
root_no_register Outward b = no_register wire (λ none. none)
root_no_register Both b = no_register pad (λ none. none)

pub roots_are : (names : Names) (clocks : List (List ℕ)) (ports : List Port) (x : Signal) → IsIn x (root_ports names clocks ports) → IsRootPort x
roots_are names clocks ports x there =
    let f = from_map (root_port names clocks) x ports there in
    record { name = f.0.name; path_is = ap (λ (y : Signal). y.path) f.2; stored = subst (λ (k : Kind). k ≢ register) (sym (ap (λ (y : Signal). y.kind) f.2)) (root_no_register f.0.way (is_among clocks f.0.name)) }

-- a signal by its number: a port of the root, or inside
get_past : {X : Type 0} (xs ys : List X) (n : ℕ) (x : X) → length xs ≤ n → slice_get (xs ++ ys) n ≡ Some x → IsIn x ys
get_past [] ys n x past is = get_in ys n x is
get_past (y ∷ xs) ys zero x past is = absurd (omega arith)
get_past (y ∷ xs) ys (suc n) x past is = get_past xs ys n x (omega arith) is

abbrev pub IsPort : ℕ → ℕ → Signal → Type 0
IsPort count n x = (n < count) × IsRootPort x

abbrev pub IsNoPort : ℕ → ℕ → Signal → Type 0
IsNoPort count n x = (count ≤ n) × IsInside x

root_parts : (ms : List ModuleTree) (n : ℕ) (x : Signal) → slice_get (root_signals ms) n ≡ Some x → IsPort (port_count ms) n x ⊎ IsNoPort (port_count ms) n x
root_parts [] n x is = absurd (get_in [] n x is)
root_parts (m ∷ earlier) n x is =
    let ports = root_ports (names_of m) (clocks_in (clock_ports earlier) m) m.ports in
    let locals = local_signals (signals_inside earlier) (names_of m) [] m.locals in
    let long : length ports ≡ length m.ports = length-map m.ports (root_port (names_of m) (clocks_in (clock_ports earlier) m)) in
    elim (cases_lt n (length ports)) [
      | inl inside ↦ inl (subst (λ (k : ℕ). n < k) long inside, roots_are (names_of m) (clocks_in (clock_ports earlier) m) m.ports x (get_in ports n x (sym (get_within ports locals n inside) ∙ is)))
      | inr past ↦ inr (subst (λ (k : ℕ). k ≤ n) long past, locals_inside (signals_inside earlier) (all_inside earlier) (names_of m) [] m.locals x (get_past ports locals n x past is))
    ]

pub port_or_not : (S : SourceTree) (n : ℕ) (x : Signal) → slice_get (signals S) n ≡ Some x → IsPort (port_count (reverse S.modules)) n x ⊎ IsNoPort (port_count (reverse S.modules)) n x
port_or_not S n x is = root_parts (reverse S.modules) n x is

-- the clock's path is its name alone
pub clock_path : (S : SourceTree) (n : ℕ) (x : Signal) → slice_get (signals S) n ≡ Some x → x.kind ≡ clock → (name : List ℕ) → first_name x.path ≡ name → x.path ≡ name ∷ []
clock_path S n x at kind name first = elim (port_or_not S n x at) [
  | inl root ↦ root.1.path_is ∙ ap (λ (k : List ℕ). k ∷ []) (sym (ap first_name root.1.path_is) ∙ first)
  | inr other ↦ absurd (other.1.inner (subst IsOuter (sym kind) tt))
]

root_few : (ms : List ModuleTree) → port_count ms ≤ length (root_signals ms)
root_few [] = omega arith
root_few (m ∷ earlier) =
    let ports = root_ports (names_of m) (clocks_in (clock_ports earlier) m) m.ports in
    let locals = local_signals (signals_inside earlier) (names_of m) [] m.locals in
    let long : length ports ≡ length m.ports = length-map m.ports (root_port (names_of m) (clocks_in (clock_ports earlier) m)) in
    let all : length (ports ++ locals) ≡ length ports + length locals = length-append ports locals in
    omega arith

pub ports_few : (S : SourceTree) → port_count (reverse S.modules) ≤ length (signals S)
ports_few S = root_few (reverse S.modules)
