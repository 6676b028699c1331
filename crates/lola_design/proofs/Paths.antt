-- The paths of signals are distinct where the names of each module are.
use Rattle.std.proofs.Common.{◌≡◌, ℕ, ◌+◌, ◌≤◌, Bool, true, false, List, [], ◌∷◌, ◌++◌, map, reverse, refl, sym, ◌∙◌, ap, ap₂, inl, inr, arith, append_assoc}
use Rattle.std.specs.Prelude.{bytes_eq, if◌then◌else◌, ◌&&◌}
use Rattle.std.proofs.lemmas.Bool.{cases_Bool}
use Rattle.lola_bits.specs.Names.{is_among}
use Rattle.lola_tree.specs.declared.named.Shape.{Shape}
use Rattle.lola_tree.specs.declared.module.Way.{Way}
use Rattle.lola_tree.specs.declared.module.Way.TheVariants.{Inward, Outward, Both}
use Rattle.lola_tree.specs.declared.module.Port.{Port}
use Rattle.lola_tree.specs.declared.module.LocalKind.{LocalKind}
use Rattle.lola_tree.specs.declared.module.LocalKind.TheVariants.{Reg, Var, Inst}
use Rattle.lola_tree.specs.declared.module.Local.{Local}
use Rattle.lola_tree.specs.Names.{Names, names_of}
use Rattle.lola_tree.specs.Tree.{ModuleTree, SourceTree}
use Rattle.lola_tree.specs.Value.{Path}
use Rattle.lola_tree.specs.design.Clocks.{clocks_in, clock_ports}
use Rattle.lola_tree.specs.design.Signals.{wire, Signal, root_ports, shown_port, instance_port, instance_ports, kind_signals, local_signals, signals_at, signals_inside, root_signals, signal_paths}
use Rattle.lola_design.specs.Paths.{path_eq, one_if, count}
use Rattle.lola_design.specs.Once.{name_count, AreNamesOnce, AllOnce}
use Rattle.lola_design.proofs.Counts.{count_append}

-- the paths of some signals
abbrev pub paths : List Signal → List Path
paths xs = map (λ (s : Signal). s.path) xs

pub paths_append : (xs ys : List Signal) → paths (xs ++ ys) ≡ paths xs ++ paths ys
paths_append [] ys = refl
paths_append (s ∷ xs) ys = ap (λ (l : List Path). s.path ∷ l) (paths_append xs ys)

map_append : (f : Path → Path) (xs ys : List Path) → map f (xs ++ ys) ≡ map f xs ++ map f ys
map_append f [] ys = refl
map_append f (x ∷ xs) ys = ap (λ (l : List Path). f x ∷ l) (map_append f xs ys)

map_twice : (p q : Path) (xs : List Path) → map (λ (y : Path). (p ++ q) ++ y) xs ≡ map (λ (y : Path). p ++ y) (map (λ (y : Path). q ++ y) xs)
map_twice p q [] = refl
map_twice p q (x ∷ xs) = ap₂ (λ (a : Path) (l : List Path). a ∷ l) (append_assoc p q x) (map_twice p q xs)

-- at another path
abbrev Shifts : (List ℕ → Path → List Signal) → Type 0
Shifts inside = (name : List ℕ) (p : Path) → paths (inside name p) ≡ map (λ (y : Path). p ++ y) (paths (inside name []))

port_shift : (p : Path) (w : Way) (b : Bool) (name : List ℕ) (names : Names) (type : Shape) →
    paths (shown_port w b (record { path = p ++ name ∷ []; kind = wire; names = names; type = type })) ≡ map (λ (y : Path). p ++ y) (paths (shown_port w b (record { path = name ∷ []; kind = wire; names = names; type = type })))
port_shift p Inward true name names type = refl
port_shift p Inward false name names type = refl
port_shift p Outward b name names type = refl
port_shift p Both b name names type = refl

-- two parts, each at another path
both_shift : (p : Path) (xs ys us vs : List Signal) → paths xs ≡ map (λ (y : Path). p ++ y) (paths us) → paths ys ≡ map (λ (y : Path). p ++ y) (paths vs) →
    paths (xs ++ ys) ≡ map (λ (y : Path). p ++ y) (paths (us ++ vs))
both_shift p xs ys us vs e f =
    paths_append xs ys ∙ ap₂ (λ (a b : List Path). a ++ b) e f
    ∙ sym (map_append (λ (y : Path). p ++ y) (paths us) (paths vs)) ∙ ap (map (λ (y : Path). p ++ y)) (sym (paths_append us vs))

ports_shift : (names : Names) (clocks : List (List ℕ)) (p : Path) (ports : List Port) → paths (instance_ports names clocks p ports) ≡ map (λ (y : Path). p ++ y) (paths (instance_ports names clocks [] ports))
ports_shift names clocks p [] = refl
ports_shift names clocks p (q ∷ ports) =
    both_shift p (instance_port names clocks p q) (instance_ports names clocks p ports) (instance_port names clocks [] q) (instance_ports names clocks [] ports)
    (port_shift p q.way (is_among clocks q.name) q.name names q.shape) (ports_shift names clocks p ports)

kind_shift : (inside : List ℕ → Path → List Signal) → Shifts inside → (names : Names) (p : Path) (name : List ℕ) (k : LocalKind) →
    paths (kind_signals inside names (p ++ name ∷ []) k) ≡ map (λ (y : Path). p ++ y) (paths (kind_signals inside names (name ∷ []) k))
kind_shift inside so names p name (Reg under type) = refl
kind_shift inside so names p name (Var type) = refl
kind_shift inside so names p name (Inst of) =
    so of.name (p ++ name ∷ []) ∙ map_twice p (name ∷ []) (paths (inside of.name [])) ∙ ap (map (λ (y : Path). p ++ y)) (sym (so of.name (name ∷ [])))

locals_shift : (inside : List ℕ → Path → List Signal) → Shifts inside → (names : Names) (p : Path) (locals : List Local) →
    paths (local_signals inside names p locals) ≡ map (λ (y : Path). p ++ y) (paths (local_signals inside names [] locals))
locals_shift inside so names p [] = refl
locals_shift inside so names p (l ∷ locals) =
    both_shift p (kind_signals inside names (p ++ l.name ∷ []) l.kind) (local_signals inside names p locals) (kind_signals inside names (l.name ∷ []) l.kind) (local_signals inside names [] locals)
    (kind_shift inside so names p l.name l.kind) (locals_shift inside so names p locals)

inside_shift : (ms : List ModuleTree) → Shifts (signals_inside ms)
inside_shift [] name p = refl
inside_shift (m ∷ earlier) name p = by_test (bytes_eq m.name name)
    (both_shift p (instance_ports (names_of m) (clocks_in (clock_ports earlier) m) p m.ports) (local_signals (signals_inside earlier) (names_of m) p m.locals)
    (instance_ports (names_of m) (clocks_in (clock_ports earlier) m) [] m.ports) (local_signals (signals_inside earlier) (names_of m) [] m.locals)
    (ports_shift (names_of m) (clocks_in (clock_ports earlier) m) p m.ports) (locals_shift (signals_inside earlier) (inside_shift earlier) (names_of m) p m.locals))
    (inside_shift earlier name p)
  where
    by_test : (b : Bool) → paths (signals_at (clock_ports earlier) (signals_inside earlier) m p) ≡ map (λ (y : Path). p ++ y) (paths (signals_at (clock_ports earlier) (signals_inside earlier) m [])) →
        paths (signals_inside earlier name p) ≡ map (λ (y : Path). p ++ y) (paths (signals_inside earlier name [])) →
        paths (if b then signals_at (clock_ports earlier) (signals_inside earlier) m p else signals_inside earlier name p)
        ≡ map (λ (y : Path). p ++ y) (paths (if b then signals_at (clock_ports earlier) (signals_inside earlier) m [] else signals_inside earlier name []))
    by_test true here later = here
    by_test false here later = later

-- below a name
under_here : (n l : List ℕ) (rest : Path) (xs : List Path) → bytes_eq l n ≡ true → count (n ∷ rest) (map (λ (y : Path). l ∷ y) xs) ≡ count rest xs
under_here n l rest [] same = refl
under_here n l rest (x ∷ xs) same = let e = under_here n l rest xs same in let f : (bytes_eq l n && path_eq x rest) ≡ path_eq x rest = rw same refl in ap₂ (λ (b : Bool) (k : ℕ). one_if b + k) f e

under_other : (n l : List ℕ) (rest : Path) (xs : List Path) → bytes_eq l n ≡ false → count (n ∷ rest) (map (λ (y : Path). l ∷ y) xs) ≡ 0
under_other n l rest [] other = refl
under_other n l rest (x ∷ xs) other = let e = under_other n l rest xs other in let f : one_if (bytes_eq l n && path_eq x rest) ≡ 0 = rw other refl in omega arith

none_empty : (l : List ℕ) (xs : List Path) → count [] (map (λ (y : Path). l ∷ y) xs) ≡ 0
none_empty l [] = refl
none_empty l (x ∷ xs) = let e = none_empty l xs in omega arith

one_most : (b : Bool) → one_if b ≤ 1
one_most true = omega arith
one_most false = omega arith

and_most : (a b : Bool) → one_if (a && b) ≤ one_if a
and_most true b = one_most b
and_most false b = omega arith

-- ports
port_once : (n : List ℕ) (rest : Path) (w : Way) (b : Bool) (name : List ℕ) (names : Names) (type : Shape) →
    count (n ∷ rest) (paths (shown_port w b (record { path = name ∷ []; kind = wire; names = names; type = type }))) ≤ one_if (bytes_eq name n)
port_once n rest Inward true name names type = omega arith
port_once n rest Inward false name names type = let f = and_most (bytes_eq name n) (path_eq [] rest) in omega arith
port_once n rest Outward b name names type = let f = and_most (bytes_eq name n) (path_eq [] rest) in omega arith
port_once n rest Both b name names type = let f = and_most (bytes_eq name n) (path_eq [] rest) in omega arith

port_none : (w : Way) (b : Bool) (name : List ℕ) (names : Names) (type : Shape) → count [] (paths (shown_port w b (record { path = name ∷ []; kind = wire; names = names; type = type }))) ≡ 0
port_none Inward true name names type = refl
port_none Inward false name names type = refl
port_none Outward b name names type = refl
port_none Both b name names type = refl

count_paths : (x : Path) (xs ys : List Signal) → count x (paths (xs ++ ys)) ≡ count x (paths xs) + count x (paths ys)
count_paths x xs ys = ap (count x) (paths_append xs ys) ∙ count_append x (paths xs) (paths ys)

ports_once : (names : Names) (clocks : List (List ℕ)) (n : List ℕ) (rest : Path) (ports : List Port) → count (n ∷ rest) (paths (instance_ports names clocks [] ports)) ≤ name_count n (map (λ (q : Port). q.name) ports)
ports_once names clocks n rest [] = omega arith
ports_once names clocks n rest (q ∷ ports) =
    let e = ports_once names clocks n rest ports in
    let f = port_once n rest q.way (is_among clocks q.name) q.name names q.shape in
    let g = count_paths (n ∷ rest) (instance_port names clocks [] q) (instance_ports names clocks [] ports) in
    omega arith

ports_none : (names : Names) (clocks : List (List ℕ)) (ports : List Port) → count [] (paths (instance_ports names clocks [] ports)) ≡ 0
ports_none names clocks [] = refl
ports_none names clocks (q ∷ ports) =
    let e = ports_none names clocks ports in
    let f = port_none q.way (is_among clocks q.name) q.name names q.shape in
    let g = count_paths [] (instance_port names clocks [] q) (instance_ports names clocks [] ports) in
    omega arith

root_ports_once : (names : Names) (clocks : List (List ℕ)) (n : List ℕ) (rest : Path) (ports : List Port) → count (n ∷ rest) (paths (root_ports names clocks ports)) ≤ name_count n (map (λ (q : Port). q.name) ports)
root_ports_once names clocks n rest [] = omega arith
root_ports_once names clocks n rest (q ∷ ports) = let e = root_ports_once names clocks n rest ports in let f = and_most (bytes_eq q.name n) (path_eq [] rest) in omega arith

root_ports_none : (names : Names) (clocks : List (List ℕ)) (ports : List Port) → count [] (paths (root_ports names clocks ports)) ≡ 0
root_ports_none names clocks [] = refl
root_ports_none names clocks (q ∷ ports) = let e = root_ports_none names clocks ports in omega arith

-- at most once
abbrev Once : (List ℕ → Path → List Signal) → Type 0
Once inside = (name : List ℕ) (x : Path) → count x (paths (inside name [])) ≤ 1

module _ (inside : List ℕ → Path → List Signal) (shifts : Shifts inside) (once : Once inside) (names : Names) where
  kind_once : (n : List ℕ) (rest : Path) (name : List ℕ) (k : LocalKind) → count (n ∷ rest) (paths (kind_signals inside names (name ∷ []) k)) ≤ one_if (bytes_eq name n)
  kind_once n rest name (Reg under type) = let f = and_most (bytes_eq name n) (path_eq [] rest) in omega arith
  kind_once n rest name (Var type) = let f = and_most (bytes_eq name n) (path_eq [] rest) in omega arith
  kind_once n rest name (Inst of) =
      let e = ap (count (n ∷ rest)) (shifts of.name (name ∷ [])) in
      elim (cases_Bool (bytes_eq name n)) [
        | inl same ↦ let f = under_here n name rest (paths (inside of.name [])) same in let g = once of.name rest in let h : one_if (bytes_eq name n) ≡ 1 = rw same refl in omega arith
        | inr other ↦ let f = under_other n name rest (paths (inside of.name [])) other in omega arith
      ]

  kind_none : (name : List ℕ) (k : LocalKind) → count [] (paths (kind_signals inside names (name ∷ []) k)) ≡ 0
  kind_none name (Reg under type) = refl
  kind_none name (Var type) = refl
  kind_none name (Inst of) = ap (count []) (shifts of.name (name ∷ [])) ∙ none_empty name (paths (inside of.name []))

  locals_once : (n : List ℕ) (rest : Path) (locals : List Local) → count (n ∷ rest) (paths (local_signals inside names [] locals)) ≤ name_count n (map (λ (l : Local). l.name) locals)
  locals_once n rest [] = omega arith
  locals_once n rest (l ∷ locals) =
      let e = kind_once n rest l.name l.kind in
      let f = locals_once n rest locals in
      let g = count_paths (n ∷ rest) (kind_signals inside names (l.name ∷ []) l.kind) (local_signals inside names [] locals) in
      omega arith

  locals_none : (locals : List Local) → count [] (paths (local_signals inside names [] locals)) ≡ 0
  locals_none [] = refl
  locals_none (l ∷ locals) =
      let e = kind_none l.name l.kind in
      let f = locals_none locals in
      let g = count_paths [] (kind_signals inside names (l.name ∷ []) l.kind) (local_signals inside names [] locals) in
      omega arith

  -- ports, and then local names
  at_once : (m : ModuleTree) (front : List Signal) → AreNamesOnce m → ((n : List ℕ) (rest : Path) → count (n ∷ rest) (paths front) ≤ name_count n (map (λ (q : Port). q.name) m.ports)) → count [] (paths front) ≡ 0 →
      (x : Path) → count x (paths (front ++ local_signals inside names [] m.locals)) ≤ 1
  at_once m front distinct most none [] =
      let f = locals_none m.locals in
      let g = count_paths [] front (local_signals inside names [] m.locals) in
      omega arith
  at_once m front distinct most none (n ∷ rest) =
      let e = most n rest in
      let f = locals_once n rest m.locals in
      let g = count_paths (n ∷ rest) front (local_signals inside names [] m.locals) in
      let d = distinct n in
      omega arith

inside_once : (ms : List ModuleTree) → AllOnce ms → Once (signals_inside ms)
inside_once [] all name x = omega arith
inside_once (m ∷ earlier) all name x = by_test (bytes_eq m.name name)
    (at_once (signals_inside earlier) (inside_shift earlier) (inside_once earlier all.1) (names_of m) m (instance_ports (names_of m) (clocks_in (clock_ports earlier) m) [] m.ports) all.0
    (λ n rest. ports_once (names_of m) (clocks_in (clock_ports earlier) m) n rest m.ports) (ports_none (names_of m) (clocks_in (clock_ports earlier) m) m.ports) x)
    (inside_once earlier all.1 name x)
  where
    by_test : (b : Bool) → count x (paths (signals_at (clock_ports earlier) (signals_inside earlier) m [])) ≤ 1 → count x (paths (signals_inside earlier name [])) ≤ 1 →
        count x (paths (if b then signals_at (clock_ports earlier) (signals_inside earlier) m [] else signals_inside earlier name [])) ≤ 1
    by_test true here later = here
    by_test false here later = later

root_once : (ms : List ModuleTree) → AllOnce ms → (x : Path) → count x (paths (root_signals ms)) ≤ 1
root_once [] all x = omega arith
root_once (m ∷ earlier) all x =
    at_once (signals_inside earlier) (inside_shift earlier) (inside_once earlier all.1) (names_of m) m (root_ports (names_of m) (clocks_in (clock_ports earlier) m) m.ports) all.0
    (λ n rest. root_ports_once (names_of m) (clocks_in (clock_ports earlier) m) n rest m.ports) (root_ports_none (names_of m) (clocks_in (clock_ports earlier) m) m.ports) x

-- no path comes twice among the signals of a design
pub paths_once : (S : SourceTree) → AllOnce (reverse S.modules) → (x : Path) → count x (signal_paths S) ≤ 1
paths_once S all x = root_once (reverse S.modules) all x
