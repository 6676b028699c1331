-- The size of a design is that of its signals and instances, whatever stands where.
use Rattle.std.proofs.Common.{◌≡◌, ℕ, ◌+◌, ◌-◌, ◌≤◌, sum, length, take, get_or, Bool, true, false, if◌then◌else◌, bytes_eq, List, [], ◌∷◌, ◌++◌, map, reverse, refl, sym, ap, ap₂, ◌∙◌, arith}
use Rattle.lola_tree.specs.declared.module.Way.{Way}
use Rattle.lola_tree.specs.declared.module.Way.TheVariants.{Inward, Outward, Both}
use Rattle.lola_tree.specs.declared.module.Port.{Port}
use Rattle.lola_tree.specs.declared.module.LocalKind.{LocalKind}
use Rattle.lola_tree.specs.declared.module.LocalKind.TheVariants.{Reg, Var, Inst}
use Rattle.lola_tree.specs.declared.module.Local.{Local}
use Rattle.std.proofs.lemmas.List.{reverse-append, take_all}
use Rattle.lola_bits.proofs.Places.{map_item}
use Rattle.lola_tree.specs.declared.module.Module.{Module}
use Rattle.lola_tree.specs.Tree.{ModuleTree, SourceTree, module_tree}
use Rattle.lola_tree.specs.Names.{Names, names_of}
use Rattle.lola_tree.specs.Value.{Path}
use Rattle.lola_bits.specs.Names.{is_among}
use Rattle.lola_tree.specs.design.Clocks.{clocks_in, clock_ports}
use Rattle.lola_tree.specs.design.Signals.{Signal, wire, elements, shown_port, instance_port, instance_ports, root_port, root_ports, kind_signals, local_signals, signals_inside, kind_instances, instances_at, instances_inside, root_signals, root_instances, size}
use Rattle.lola_unfold.specs.Measured.{is_hidden, port_size, kind_size, size_at, size_inside, root_size}
use Rattle.lola_unfold.specs.Tables.{no_clock}
use Rattle.lola_unfold.proofs.Sums.{sum_cons}

abbrev total : List Signal → ℕ
total xs = sum (map (λ (s : Signal). elements s.names s.type) xs)

total_more : (x : Signal) (xs : List Signal) → total (x ∷ xs) ≡ elements x.names x.type + total xs
total_more x xs = sum_cons (elements x.names x.type) (map (λ (s : Signal). elements s.names s.type) xs)

total_append : (xs ys : List Signal) → total (xs ++ ys) ≡ total xs + total ys
total_append [] ys = let e : 0 + total ys ≡ total ys = omega arith in sym e
total_append (x ∷ xs) ys =
    total_more x (xs ++ ys) ∙ ap (λ n. elements x.names x.type + n) (total_append xs ys) ∙ plus_left (elements x.names x.type) (total xs) (total ys)
    ∙ sym (ap (λ n. n + total ys) (total_more x xs))
  where
    plus_left : (a b c : ℕ) → a + (b + c) ≡ (a + b) + c
    plus_left a b c = omega arith

shown : (w : Way) (b : Bool) (x : Signal) → total (shown_port w b x) ≡ (if is_hidden w b then 0 else elements x.names x.type)
shown Inward true x = refl
shown Inward false x = omega arith
shown Outward b x = omega arith
shown Both b x = omega arith

port_totals : (names : Names) (clocks : List (List ℕ)) (q : Path) (ports : List Port) → total (instance_ports names clocks q ports) ≡ sum (map (port_size names (is_among clocks)) ports)
port_totals names clocks q [] = refl
port_totals names clocks q (p ∷ ports) =
    total_append (instance_port names clocks q p) (instance_ports names clocks q ports)
    ∙ ap₂ (λ a b. a + b) (shown p.way (is_among clocks p.name) (record { path = q ++ p.name ∷ []; kind = wire; names = names; type = p.shape })) (port_totals names clocks q ports)
    ∙ sym (sum_cons (port_size names (is_among clocks) p) (map (port_size names (is_among clocks)) ports))

shows : (w : Way) (n : ℕ) → n ≡ (if is_hidden w false then 0 else n)
shows Inward n = refl
shows Outward n = refl
shows Both n = refl

root_totals : (names : Names) (clocks : List (List ℕ)) (ports : List Port) → total (root_ports names clocks ports) ≡ sum (map (port_size names no_clock) ports)
root_totals names clocks [] = refl
root_totals names clocks (p ∷ ports) =
    total_more (root_port names clocks p) (root_ports names clocks ports) ∙ ap₂ (λ a b. a + b) (shows p.way (elements names p.shape)) (root_totals names clocks ports)
    ∙ sym (sum_cons (port_size names no_clock p) (map (port_size names no_clock) ports))

abbrev Sums : (List ℕ → Path → List Signal) → (List ℕ → ℕ) → (List ℕ → ℕ) → Type 0
Sums inside instances sizes = (name : List ℕ) (q : Path) → total (inside name q) + instances name ≡ sizes name

kind_totals : (inside : List ℕ → Path → List Signal) (instances sizes : List ℕ → ℕ) → Sums inside instances sizes → (names : Names) (q : Path) (k : LocalKind) →
    total (kind_signals inside names q k) + kind_instances instances k ≡ kind_size sizes names k
kind_totals inside instances sizes sums names q (Reg under type) = omega arith
kind_totals inside instances sizes sums names q (Var type) = omega arith
kind_totals inside instances sizes sums names q (Inst of) = let e = sums of.name q in omega arith

both : (a b c d x y : ℕ) → a + c ≡ x → b + d ≡ y → (a + b) + (c + d) ≡ x + y
both a b c d x y e f = omega arith

local_totals : (inside : List ℕ → Path → List Signal) (instances sizes : List ℕ → ℕ) → Sums inside instances sizes → (names : Names) (p : Path) (locals : List Local) →
    total (local_signals inside names p locals) + sum (map (λ (l : Local). kind_instances instances l.kind) locals) ≡ sum (map (λ (l : Local). kind_size sizes names l.kind) locals)
local_totals inside instances sizes sums names p [] = refl
local_totals inside instances sizes sums names p (l ∷ locals) =
    ap₂ (λ a b. a + b) (total_append (kind_signals inside names (p ++ l.name ∷ []) l.kind) (local_signals inside names p locals))
    (sum_cons (kind_instances instances l.kind) (map (λ (x : Local). kind_instances instances x.kind) locals))
    ∙ both (total (kind_signals inside names (p ++ l.name ∷ []) l.kind)) (total (local_signals inside names p locals)) (kind_instances instances l.kind)
    (sum (map (λ (x : Local). kind_instances instances x.kind) locals)) (kind_size sizes names l.kind) (sum (map (λ (x : Local). kind_size sizes names x.kind) locals))
    (kind_totals inside instances sizes sums names (p ++ l.name ∷ []) l.kind) (local_totals inside instances sizes sums names p locals)
    ∙ sym (sum_cons (kind_size sizes names l.kind) (map (λ (x : Local). kind_size sizes names x.kind) locals))

together : (all ports locals instances sizes more : ℕ) → all ≡ ports + locals → ports ≡ sizes → locals + instances ≡ more → all + instances ≡ sizes + more
together all ports locals instances sizes more e f g = omega arith

by_test : (b : Bool) (xs ys : List Signal) (m n j k : ℕ) → total xs + m ≡ j → total ys + n ≡ k → total (if b then xs else ys) + (if b then m else n) ≡ (if b then j else k)
by_test true xs ys m n j k e f = e
by_test false xs ys m n j k e f = f

inside_totals : (E : List ModuleTree) → Sums (signals_inside E) (instances_inside E) (size_inside E)
inside_totals [] name q = refl
inside_totals (m ∷ E) name q =
    let clocks = clocks_in (clock_ports E) m in
    let ports = instance_ports (names_of m) clocks q m.ports in
    let locals = local_signals (signals_inside E) (names_of m) q m.locals in
    by_test (bytes_eq m.name name) (ports ++ locals) (signals_inside E name q) (instances_at (instances_inside E) m) (instances_inside E name)
    (size_at (size_inside E) (names_of m) (is_among clocks) m.ports m.locals) (size_inside E name)
    (together (total (ports ++ locals)) (total ports) (total locals) (instances_at (instances_inside E) m) (sum (map (port_size (names_of m) (is_among clocks)) m.ports))
    (sum (map (λ (l : Local). kind_size (size_inside E) (names_of m) l.kind) m.locals)) (total_append ports locals) (port_totals (names_of m) clocks q m.ports)
    (local_totals (signals_inside E) (instances_inside E) (size_inside E) (inside_totals E) (names_of m) q m.locals))
    (inside_totals E name q)

root_is : (ms : List ModuleTree) (S : SourceTree) → reverse S.modules ≡ ms → size S ≡ root_size ms
root_is [] S is = ap₂ (λ a b. a + b) (ap (λ ms. total (root_signals ms)) is) (ap root_instances is)
root_is (m ∷ E) S is =
    ap₂ (λ a b. a + b) (ap (λ ms. total (root_signals ms)) is) (ap root_instances is)
    ∙ (let clocks = clocks_in (clock_ports E) m in
    let ports = root_ports (names_of m) clocks m.ports in
    let locals = local_signals (signals_inside E) (names_of m) [] m.locals in
    together (total (ports ++ locals)) (total ports) (total locals) (instances_at (instances_inside E) m) (sum (map (port_size (names_of m) no_clock) m.ports))
    (sum (map (λ (l : Local). kind_size (size_inside E) (names_of m) l.kind) m.locals)) (total_append ports locals) (root_totals (names_of m) clocks m.ports)
    (local_totals (signals_inside E) (instances_inside E) (size_inside E) (inside_totals E) (names_of m) [] m.locals))

pub size_is : (S : SourceTree) → size S ≡ root_size (reverse S.modules)
size_is S = root_is (reverse S.modules) S refl

-- the last of some modules, and those before it
pub last_turned : (ms : List Module) (x : Module) → 1 ≤ length ms → x ≡ get_or ms (length ms - 1) x →
    reverse (map module_tree ms) ≡ module_tree x ∷ reverse (map module_tree (take (length ms - 1) ms))
last_turned ms x some is =
    let whole : take (length ms - 1 + 1) ms ≡ ms = take_all (length ms - 1 + 1) ms (omega arith) in
    sym (ap (λ (l : List Module). reverse (map module_tree l)) whole) ∙ ap reverse (map_item module_tree ms (length ms - 1) x (omega arith) is)
    ∙ reverse-append (map module_tree (take (length ms - 1) ms)) (module_tree x ∷ [])
