-- The paths of a design's signals are those that its modules give them, and no instance has the clock of a design.
use Rattle.std.proofs.Common.{◌≡◌, ℕ, Bool, true, false, if◌then◌else◌, bytes_eq, List, [], ◌∷◌, ◌++◌, map, refl, sym, ap, ap₂, ◌∙◌, append_assoc}
use Rattle.std.proofs.lemmas.List.{map-append}
use Rattle.lola_bits.specs.Names.{is_among}
use Rattle.lola_tree.specs.declared.named.Shape.{Shape}
use Rattle.lola_tree.specs.declared.module.Way.{Way}
use Rattle.lola_tree.specs.declared.module.Way.TheVariants.{Inward, Outward, Both}
use Rattle.lola_tree.specs.declared.module.Port.{Port}
use Rattle.lola_tree.specs.declared.module.LocalKind.{LocalKind}
use Rattle.lola_tree.specs.declared.module.LocalKind.TheVariants.{Reg, Var, Inst}
use Rattle.lola_tree.specs.declared.module.Local.{Local}
use Rattle.lola_tree.specs.Names.{Names, names_of}
use Rattle.lola_tree.specs.Tree.{ModuleTree}
use Rattle.lola_tree.specs.Value.{Path}
use Rattle.lola_tree.specs.design.Clocks.{clocks_in, clock_ports}
use Rattle.lola_tree.specs.design.Signals.{wire, Signal, root_ports, shown_port, instance_port, instance_ports, kind_signals, local_signals, signals_at, signals_inside, root_signals}
use Rattle.lola_design.proofs.Paths.{paths, paths_append}
use Rattle.lola_unfold.specs.Tables.{no_clock}
use Rattle.lola_unfold.specs.Measured.{is_hidden}
use Rattle.lola_unfold.specs.Offsets.{port_paths, kind_paths, local_paths, own_paths, paths_inside}

abbrev below : Path → List Path → List Path
below q xs = map (λ (y : Path). q ++ y) xs

below_append : (q : Path) (xs ys : List Path) → below q (xs ++ ys) ≡ below q xs ++ below q ys
below_append q xs ys = map-append (λ (y : Path). q ++ y) xs ys

below_twice : (q : Path) (name : List ℕ) (xs : List Path) → below (q ++ name ∷ []) xs ≡ below q (map (λ (y : Path). name ∷ y) xs)
below_twice q name [] = refl
below_twice q name (x ∷ xs) = ap₂ (λ (a : Path) (l : List Path). a ∷ l) (append_assoc q (name ∷ []) x) (below_twice q name xs)

-- two parts
both : (q : Path) (xs ys : List Signal) (us vs : List Path) → paths xs ≡ below q us → paths ys ≡ below q vs → paths (xs ++ ys) ≡ below q (us ++ vs)
both q xs ys us vs e f = paths_append xs ys ∙ ap₂ (λ (a b : List Path). a ++ b) e f ∙ sym (below_append q us vs)

port_below : (q : Path) (w : Way) (b : Bool) (name : List ℕ) (names : Names) (type : Shape) →
    paths (shown_port w b (record { path = q ++ name ∷ []; kind = wire; names = names; type = type })) ≡ below q (if is_hidden w b then [] else (name ∷ []) ∷ [])
port_below q Inward true name names type = refl
port_below q Inward false name names type = refl
port_below q Outward b name names type = refl
port_below q Both b name names type = refl

ports_below : (names : Names) (clocks : List (List ℕ)) (q : Path) (ports : List Port) → paths (instance_ports names clocks q ports) ≡ below q (port_paths (is_among clocks) ports)
ports_below names clocks q [] = refl
ports_below names clocks q (p ∷ ports) =
    both q (instance_port names clocks q p) (instance_ports names clocks q ports) (if is_hidden p.way (is_among clocks p.name) then [] else (p.name ∷ []) ∷ []) (port_paths (is_among clocks) ports)
    (port_below q p.way (is_among clocks p.name) p.name names p.shape) (ports_below names clocks q ports)

abbrev Below : (List ℕ → Path → List Signal) → (List ℕ → List Path) → Type 0
Below signals xs = (name : List ℕ) (q : Path) → paths (signals name q) ≡ below q (xs name)

kind_below : (signals : List ℕ → Path → List Signal) (xs : List ℕ → List Path) → Below signals xs → (names : Names) (q : Path) (name : List ℕ) (k : LocalKind) →
    paths (kind_signals signals names (q ++ name ∷ []) k) ≡ below q (kind_paths xs name k)
kind_below signals xs so names q name (Reg under type) = refl
kind_below signals xs so names q name (Var type) = refl
kind_below signals xs so names q name (Inst of) = so of.name (q ++ name ∷ []) ∙ below_twice q name (xs of.name)

locals_below : (signals : List ℕ → Path → List Signal) (xs : List ℕ → List Path) → Below signals xs → (names : Names) (q : Path) (locals : List Local) →
    paths (local_signals signals names q locals) ≡ below q (local_paths xs locals)
locals_below signals xs so names q [] = refl
locals_below signals xs so names q (l ∷ locals) =
    both q (kind_signals signals names (q ++ l.name ∷ []) l.kind) (local_signals signals names q locals) (kind_paths xs l.name l.kind) (local_paths xs locals)
    (kind_below signals xs so names q l.name l.kind) (locals_below signals xs so names q locals)

by_test : (b : Bool) (q : Path) (xs ys : List Signal) (us vs : List Path) → paths xs ≡ below q us → paths ys ≡ below q vs → paths (if b then xs else ys) ≡ below q (if b then us else vs)
by_test true q xs ys us vs e f = e
by_test false q xs ys us vs e f = f

inside_below : (E : List ModuleTree) → Below (signals_inside E) (paths_inside E)
inside_below [] name q = refl
inside_below (m ∷ E) name q =
    let clocks = clocks_in (clock_ports E) m in
    by_test (bytes_eq m.name name) q (signals_at (clock_ports E) (signals_inside E) m q) (signals_inside E name q) (own_paths (is_among clocks) (paths_inside E) m) (paths_inside E name)
    (both q (instance_ports (names_of m) clocks q m.ports) (local_signals (signals_inside E) (names_of m) q m.locals) (port_paths (is_among clocks) m.ports) (local_paths (paths_inside E) m.locals)
    (ports_below (names_of m) clocks q m.ports) (locals_below (signals_inside E) (paths_inside E) (inside_below E) (names_of m) q m.locals))
    (inside_below E name q)

below_none : (xs : List Path) → below [] xs ≡ xs
below_none [] = refl
below_none (x ∷ xs) = ap (λ (l : List Path). x ∷ l) (below_none xs)

root_test : (w : Way) (n : List ℕ) (rest : List Path) → (n ∷ []) ∷ rest ≡ (if is_hidden w false then [] else (n ∷ []) ∷ []) ++ rest
root_test Inward n rest = refl
root_test Outward n rest = refl
root_test Both n rest = refl

root_ports_are : (names : Names) (clocks : List (List ℕ)) (ports : List Port) → paths (root_ports names clocks ports) ≡ port_paths no_clock ports
root_ports_are names clocks [] = refl
root_ports_are names clocks (p ∷ ports) = ap (λ (l : List Path). (p.name ∷ []) ∷ l) (root_ports_are names clocks ports) ∙ root_test p.way p.name (port_paths no_clock ports)

-- the paths of a design
pub root_paths : (E : List ModuleTree) (m : ModuleTree) → paths (root_signals (m ∷ E)) ≡ own_paths no_clock (paths_inside E) m
root_paths E m =
    paths_append (root_ports (names_of m) (clocks_in (clock_ports E) m) m.ports) (local_signals (signals_inside E) (names_of m) [] m.locals)
    ∙ ap₂ (λ (a b : List Path). a ++ b) (root_ports_are (names_of m) (clocks_in (clock_ports E) m) m.ports)
    (locals_below (signals_inside E) (paths_inside E) (inside_below E) (names_of m) [] m.locals ∙ below_none (local_paths (paths_inside E) m.locals))
