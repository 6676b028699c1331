-- The left sides of the flat equations are the wires and pads, each as often.
use Rattle.std.proofs.Common.{◌≡◌, ℕ, ◌+◌, Bool, true, false, List, [], ◌∷◌, ◌++◌, map, reverse, length, None, refl, sym, ◌∙◌, ap, inl, inr, arith}
use Rattle.std.specs.Prelude.{bytes_eq, if◌then◌else◌, flat_map}
use Rattle.std.proofs.lemmas.Bool.{cases_Bool, cond-true, cond-false}
use Rattle.lola_tree.specs.declared.module.Way.{Way}
use Rattle.lola_tree.specs.declared.module.Way.TheVariants.{Inward, Outward, Both}
use Rattle.lola_tree.specs.declared.module.Port.{Port}
use Rattle.lola_tree.specs.declared.module.LocalKind.{LocalKind}
use Rattle.lola_tree.specs.declared.module.LocalKind.TheVariants.{Reg, Var, Inst}
use Rattle.lola_tree.specs.declared.module.Local.{Local}
use Rattle.lola_tree.specs.Tree.{Tree, ActualTree, StmtTree, assignment, call, pad, ModuleTree, SourceTree}
use Rattle.lola_tree.specs.Value.{Path}
use Rattle.lola_bits.specs.Names.{is_among}
use Rattle.lola_tree.specs.Signals.{register_names}
use Rattle.lola_tree.specs.design.Places.{Pads, pad_of, way_pad, passed_pads, own_pads, Caller, Place, kind_places, local_places, places_inside, root_places}
use Rattle.lola_tree.specs.design.Calls.{bare_path, bare_name, args_of}
use Rattle.lola_tree.specs.design.Clocks.{clock_ports, clocks_in}
use Rattle.lola_tree.specs.design.Equations.{expression, Equation, way_equations, arg_equations, caller_equations, stmt_equations, place_equations}
use Rattle.lola_tree.specs.declared.named.Shape.{Shape}
use Rattle.lola_tree.specs.Names.{Names, names_of}
use Rattle.lola_tree.specs.design.Signals.{Kind, wire, Signal, root_kind, root_port, root_ports, shown_port, instance_port, instance_ports, kind_signals, local_signals, signals_at, signals_inside, root_signals, signals}
use Rattle.lola_tree.specs.design.Chains.{flat_left, flat_equation, flat_equations}
use Rattle.lola_design.specs.Drives.{pad_names}
use Rattle.lola_design.specs.Paths.{count, lefts, has_equation, paths_where}
use Rattle.lola_design.specs.Assigned.{entered_way, entered_ports, out_way, out_ports, out_args, pad_paths, var_path, var_paths, said_by, driven_by, outs_inside, pads_inside, of_kind, of_locals, way_names, both_names, port_count, AreAsMany, CallsFit, AllCallsFit, IsAssigned, AreAssigned}
use Rattle.lola_design.proofs.Pads.{entered, entry}

pub count_append : (x : Path) (xs ys : List Path) → count x (xs ++ ys) ≡ count x xs + count x ys
count_append x [] ys = omega arith
count_append x (y ∷ xs) ys = let e : count x (xs ++ ys) ≡ count x xs + count x ys = count_append x xs ys in omega arith

-- the left sides of flat equations
abbrev flats : List Equation → List Path
flats es = lefts (map flat_equation es)

flats_append : (xs ys : List Equation) → flats (xs ++ ys) ≡ flats xs ++ flats ys
flats_append [] ys = refl
flats_append (e ∷ xs) ys = ap (λ (l : List Path). flat_left e.left e.right ∷ l) (flats_append xs ys)

count_flats : (x : Path) (xs ys : List Equation) → count x (flats (xs ++ ys)) ≡ count x (flats xs) + count x (flats ys)
count_flats x xs ys = ap (count x) (flats_append xs ys) ∙ count_append x (flats xs) (flats ys)

-- an argument
way_count : (x : Path) (w : Way) (b : Bool) (q : Path) (m : ModuleTree) (p : Path) (a : Tree) →
    count x (flats (way_equations w b q m p a)) ≡ count x (entered_way w b q) + count x (out_way w (p ++ bare_path a))
way_count x Inward true q m p a = omega arith
way_count x Inward false q m p a = omega arith
way_count x Outward b q m p a = omega arith
way_count x Both b q m p a = omega arith

args_count : (x : Path) (clocks : List (List ℕ)) (q : Path) (m : ModuleTree) (p : Path) (ports : List Port) (args : List ActualTree) → length ports ≡ length args →
    count x (flats (arg_equations clocks q m p ports args)) ≡ count x (entered_ports clocks q ports) + count x (out_args p ports args)
args_count x clocks q m p [] args as_many = omega arith
args_count x clocks q m p (port ∷ ports) [] as_many = absurd (omega arith)
args_count x clocks q m p (port ∷ ports) (a ∷ args) as_many =
    let same : length ports ≡ length args = omega arith in
    let front = way_equations port.way (is_among clocks port.name) (q ++ port.name ∷ []) m p a.value in
    let e0 = count_flats x front (arg_equations clocks q m p ports args) in
    let e1 = way_count x port.way (is_among clocks port.name) (q ++ port.name ∷ []) m p a.value in
    let e2 = args_count x clocks q m p ports args same in
    let e3 = count_append x (entered_way port.way (is_among clocks port.name) (q ++ port.name ∷ [])) (entered_ports clocks q ports) in
    let e4 = count_append x (out_way port.way (p ++ bare_path a.value)) (out_args p ports args) in
    omega arith

-- statements
if_count : (x : Path) (b : Bool) (e : Equation) → count x (flats (if b then [] else e ∷ [])) ≡ count x (if b then [] else flat_left e.left e.right ∷ [])
if_count x true e = refl
if_count x false e = refl

stmt_count : (x : Path) (a : Place) (t : StmtTree) → count x (flats (stmt_equations a t)) ≡ count x (said_by a.path a.module_ t) + count x (driven_by a.pads t)
stmt_count x a (assignment name place e at equals) =
    let i = if_count x (is_among (register_names a.module_.locals) name) (record { left = a.path ++ name ∷ []; right = expression a.module_ a.path e }) in omega arith
stmt_count x a (call name args at) = omega arith
stmt_count x a (pad io inner drive release at) = omega arith

body_count : (x : Path) (a : Place) (ts : List StmtTree) →
    count x (flats (flat_map (stmt_equations a) ts)) ≡ count x (flat_map (said_by a.path a.module_) ts) + count x (flat_map (driven_by a.pads) ts)
body_count x a [] = omega arith
body_count x a (t ∷ ts) =
    let e0 = count_flats x (stmt_equations a t) (flat_map (stmt_equations a) ts) in
    let e1 = stmt_count x a t in
    let e2 = body_count x a ts in
    let e3 = count_append x (said_by a.path a.module_ t) (flat_map (said_by a.path a.module_) ts) in
    let e4 = count_append x (driven_by a.pads t) (flat_map (driven_by a.pads) ts) in
    omega arith

-- the names of the pads of a called module, and of the root
passed_names : (pads : Pads) (ports : List Port) (args : List ActualTree) → length ports ≡ length args → pad_names (passed_pads pads ports args) ≡ both_names ports
passed_names pads [] args as_many = refl
passed_names pads (port ∷ ports) [] as_many = absurd (omega arith)
passed_names pads (port ∷ ports) (a ∷ args) as_many =
    let same : length ports ≡ length args = omega arith in
    way_front port.way port.name (pad_of pads (bare_name a.value)) (passed_pads pads ports args) ∙ ap (λ (l : List (List ℕ)). way_names port.way port.name ++ l) (passed_names pads ports args same)
  where
    way_front : (w : Way) (name : List ℕ) (root : Path) (rest : Pads) → pad_names (way_pad w name root ++ rest) ≡ way_names w name ++ pad_names rest
    way_front Inward name root rest = refl
    way_front Outward name root rest = refl
    way_front Both name root rest = refl

own_names : (ports : List Port) → pad_names (own_pads ports) ≡ both_names ports
own_names [] = refl
own_names (port ∷ ports) = way_front port.way port.name (port.name ∷ []) (own_pads ports) ∙ ap (λ (l : List (List ℕ)). way_names port.way port.name ++ l) (own_names ports)
  where
    way_front : (w : Way) (name : List ℕ) (root : Path) (rest : Pads) → pad_names (way_pad w name root ++ rest) ≡ way_names w name ++ pad_names rest
    way_front Inward name root rest = refl
    way_front Outward name root rest = refl
    way_front Both name root rest = refl

-- signals
pub where_append : (x : Path) (test : Kind → Bool) (xs ys : List Signal) → count x (paths_where test (xs ++ ys)) ≡ count x (paths_where test xs) + count x (paths_where test ys)
where_append x test [] ys = omega arith
where_append x test (s ∷ xs) ys =
    let e0 = count_append x (if test s.kind then s.path ∷ [] else []) (paths_where test (xs ++ ys)) in
    let e1 = count_append x (if test s.kind then s.path ∷ [] else []) (paths_where test xs) in
    let e2 = where_append x test xs ys in
    omega arith

abbrev wires_of : List Signal → List Path
wires_of xs = paths_where has_equation xs

port_wires : (x : Path) (names : Names) (clocks : List (List ℕ)) (q : Path) (w : Way) (b : Bool) (s : Signal) → s.kind ≡ wire → s.path ≡ q →
    count x (wires_of (shown_port w b s)) ≡ count x (entered_way w b q) + count x (out_way w q)
port_wires x names clocks q Inward true s kind path = omega arith
port_wires x names clocks q Inward false s kind path = rw (kind, path) (omega arith)
port_wires x names clocks q Outward b s kind path = rw (kind, path) (omega arith)
port_wires x names clocks q Both b s kind path = rw (kind, path) (omega arith)

ports_wires : (x : Path) (names : Names) (clocks : List (List ℕ)) (q : Path) (ports : List Port) →
    count x (wires_of (instance_ports names clocks q ports)) ≡ count x (entered_ports clocks q ports) + count x (out_ports q ports)
ports_wires x names clocks q [] = omega arith
ports_wires x names clocks q (p ∷ ports) =
    let s : Signal = record { path = q ++ p.name ∷ []; kind = wire; names = names; type = p.shape } in
    let e0 = where_append x has_equation (instance_port names clocks q p) (instance_ports names clocks q ports) in
    let e1 = port_wires x names clocks (q ++ p.name ∷ []) p.way (is_among clocks p.name) s refl refl in
    let e2 = ports_wires x names clocks q ports in
    let e3 = count_append x (entered_way p.way (is_among clocks p.name) (q ++ p.name ∷ [])) (entered_ports clocks q ports) in
    let e4 = count_append x (out_way p.way (q ++ p.name ∷ [])) (out_ports q ports) in
    omega arith

root_way_wires : (x : Path) (names : Names) (w : Way) (b : Bool) (name : List ℕ) (type : Shape) (rest : Pads) →
    count x (wires_of (record { path = name ∷ []; kind = root_kind w b; names = names; type = type } ∷ [])) + count x (pad_paths rest) ≡ count x (out_way w (name ∷ [])) + count x (pad_paths (way_pad w name (name ∷ []) ++ rest))
root_way_wires x names Inward true name type rest = omega arith
root_way_wires x names Inward false name type rest = omega arith
root_way_wires x names Outward b name type rest = omega arith
root_way_wires x names Both b name type rest = omega arith

root_wires : (x : Path) (names : Names) (clocks : List (List ℕ)) (ports : List Port) →
    count x (wires_of (root_ports names clocks ports)) ≡ count x (out_ports [] ports) + count x (pad_paths (own_pads ports))
root_wires x names clocks [] = omega arith
root_wires x names clocks (p ∷ ports) =
    let e0 = where_append x has_equation (root_port names clocks p ∷ []) (root_ports names clocks ports) in
    let e1 = root_way_wires x names p.way (is_among clocks p.name) p.name p.shape (own_pads ports) in
    let e2 = root_wires x names clocks ports in
    let e3 = count_append x (out_way p.way (p.name ∷ [])) (out_ports [] ports) in
    omega arith

-- places
abbrev said_at : List Place → List Path
said_at as_ = flats (flat_map place_equations as_)

said_append : (x : Path) (xs ys : List Place) → count x (said_at (xs ++ ys)) ≡ count x (said_at xs) + count x (said_at ys)
said_append x [] ys = omega arith
said_append x (a ∷ xs) ys =
    let e0 = count_flats x (place_equations a) (flat_map place_equations (xs ++ ys)) in
    let e1 = count_flats x (place_equations a) (flat_map place_equations xs) in
    let e2 = said_append x xs ys in
    omega arith

-- what an instance's places say: its wires, the arguments of its OUT ports, and the pads that its INOUT ports stand
-- for
abbrev Says : Path → List Place → List Signal → List Path → List Path → Type 0
Says x as_ xs outs roots = count x (said_at as_) ≡ count x (wires_of xs) + (count x outs + count x roots)

-- and those of local names, but for the variables, which the module's own statements assign
abbrev Say : Path → List Place → List Path → List Signal → List Path → List Path → Type 0
Say x as_ vars xs outs roots = count x (said_at as_) + count x vars ≡ count x (wires_of xs) + (count x outs + count x roots)

abbrev AllSay : Path → List ModuleTree → Type 0
AllSay x earlier =
    (name : List ℕ) (p : Path) (c : Caller) → AreAsMany earlier name c.args → Says x (places_inside earlier name p c) (signals_inside earlier name p) (outs_inside earlier name c) (pads_inside earlier name c)

module _ (x : Path) where
  kind_says : (earlier : List ModuleTree) → AllSay x earlier → (m : ModuleTree) (p : Path) (pads : Pads) (name : List ℕ) (k : LocalKind) → CallsFit earlier m k name →
      Say x (kind_places (places_inside earlier) m p pads name k) (var_path k (p ++ name ∷ [])) (kind_signals (signals_inside earlier) (names_of m) (p ++ name ∷ []) k)
      (of_kind (outs_inside earlier) m p pads name k) (of_kind (pads_inside earlier) m p pads name k)
  kind_says earlier so m p pads name (Reg under type) fit = omega arith
  kind_says earlier so m p pads name (Var type) fit = omega arith
  kind_says earlier so m p pads name (Inst of) fit =
      let e = so of.name (p ++ name ∷ []) (record { module_ = m; path = p; pads = pads; args = args_of m.body name }) fit in omega arith

  locals_say : (earlier : List ModuleTree) → AllSay x earlier → (m : ModuleTree) (p : Path) (pads : Pads) (locals : List Local) → AllCallsFit earlier m locals →
      Say x (local_places (places_inside earlier) m p pads locals) (var_paths p locals) (local_signals (signals_inside earlier) (names_of m) p locals)
      (of_locals (outs_inside earlier) m p pads locals) (of_locals (pads_inside earlier) m p pads locals)
  locals_say earlier so m p pads [] fit = omega arith
  locals_say earlier so m p pads (l ∷ locals) fit =
      let e0 = kind_says earlier so m p pads l.name l.kind fit.0 in
      let e1 = locals_say earlier so m p pads locals fit.1 in
      let e2 = said_append x (kind_places (places_inside earlier) m p pads l.name l.kind) (local_places (places_inside earlier) m p pads locals) in
      let e3 = where_append x has_equation (kind_signals (signals_inside earlier) (names_of m) (p ++ l.name ∷ []) l.kind) (local_signals (signals_inside earlier) (names_of m) p locals) in
      let e4 = count_append x (of_kind (outs_inside earlier) m p pads l.name l.kind) (of_locals (outs_inside earlier) m p pads locals) in
      let e5 = count_append x (of_kind (pads_inside earlier) m p pads l.name l.kind) (of_locals (pads_inside earlier) m p pads locals) in
      let e6 = count_append x (var_path l.kind (p ++ l.name ∷ [])) (var_paths p locals) in
      omega arith

  -- a called module
  called_says : (earlier : List ModuleTree) → AllSay x earlier → (m : ModuleTree) (p : Path) (c : Caller) → IsAssigned earlier m → length m.ports ≡ length c.args →
      Says x (entered m earlier p c) (signals_at (clock_ports earlier) (signals_inside earlier) m p) (out_args c.path m.ports c.args) (pad_paths (passed_pads c.pads m.ports c.args))
  called_says earlier so m p c is as_many =
      let a = entry m earlier p c in
      let rest = local_places (places_inside earlier) m p a.pads m.locals in
      let names = passed_names c.pads m.ports c.args as_many in
      let e0 = count_flats x (place_equations a) (flat_map place_equations rest) in
      let e1 = count_flats x (caller_equations a a.caller) (flat_map (stmt_equations a) m.body) in
      let e2 = args_count x a.clocks p c.module_ c.path m.ports c.args as_many in
      let e3 = body_count x a m.body in
      let e4 = locals_say earlier so m p a.pads m.locals is.calls in
      let e5 = is.once x p a.pads names in
      let e6 = is.driven x p a.pads names in
      let e7 = where_append x has_equation (instance_ports (names_of m) a.clocks p m.ports) (local_signals (signals_inside earlier) (names_of m) p m.locals) in
      let e8 = ports_wires x (names_of m) a.clocks p m.ports in
      omega arith

  inside_says : (ms : List ModuleTree) → AreAssigned ms → AllSay x ms
  inside_says [] are name p c fit = omega arith
  inside_says (m ∷ earlier) are name p c fit = elim (cases_Bool (bytes_eq m.name name)) [
    | inl same ↦
        let many : length m.ports ≡ length c.args = sym (cond-true (bytes_eq m.name name) (length m.ports) (port_count earlier name (length c.args)) same) ∙ fit in
        let said = called_says earlier (inside_says earlier are.1) m p c are.0 many in
        let e0 = ap (λ (l : List Place). count x (said_at l)) (cond-true (bytes_eq m.name name) (entered m earlier p c) (places_inside earlier name p c) same) in
        let e1 = ap (λ (l : List Signal). count x (wires_of l)) (cond-true (bytes_eq m.name name) (signals_at (clock_ports earlier) (signals_inside earlier) m p) (signals_inside earlier name p) same) in
        let e2 = ap (count x) (cond-true (bytes_eq m.name name) (out_args c.path m.ports c.args) (outs_inside earlier name c) same) in
        let e3 = ap (count x) (cond-true (bytes_eq m.name name) (pad_paths (passed_pads c.pads m.ports c.args)) (pads_inside earlier name c) same) in
        omega arith
    | inr other ↦
        let fits : AreAsMany earlier name c.args = sym (cond-false (bytes_eq m.name name) (length m.ports) (port_count earlier name (length c.args)) other) ∙ fit in
        let said = inside_says earlier are.1 name p c fits in
        let e0 = ap (λ (l : List Place). count x (said_at l)) (cond-false (bytes_eq m.name name) (entered m earlier p c) (places_inside earlier name p c) other) in
        let e1 = ap (λ (l : List Signal). count x (wires_of l)) (cond-false (bytes_eq m.name name) (signals_at (clock_ports earlier) (signals_inside earlier) m p) (signals_inside earlier name p) other) in
        let e2 = ap (count x) (cond-false (bytes_eq m.name name) (out_args c.path m.ports c.args) (outs_inside earlier name c) other) in
        let e3 = ap (count x) (cond-false (bytes_eq m.name name) (pad_paths (passed_pads c.pads m.ports c.args)) (pads_inside earlier name c) other) in
        omega arith
  ]

  root_says : (ms : List ModuleTree) → AreAssigned ms → count x (said_at (root_places ms)) ≡ count x (wires_of (root_signals ms))
  root_says [] are = refl
  root_says (m ∷ earlier) are =
      let pads = own_pads m.ports in
      let clocks = clocks_in (clock_ports earlier) m in
      let a : Place = record { module_ = m; path = []; clocks = clocks; pads = pads; caller = None } in
      let rest = local_places (places_inside earlier) m [] pads m.locals in
      let e0 = count_flats x (place_equations a) (flat_map place_equations rest) in
      let e3 = body_count x a m.body in
      let e4 = locals_say earlier (inside_says earlier are.1) m [] pads m.locals are.0.calls in
      let e5 = are.0.once x [] pads (own_names m.ports) in
      let e6 = are.0.driven x [] pads (own_names m.ports) in
      let e7 = where_append x has_equation (root_ports (names_of m) clocks m.ports) (local_signals (signals_inside earlier) (names_of m) [] m.locals) in
      let e8 = root_wires x (names_of m) clocks m.ports in
      omega arith

  -- each wire and pad has as many equations as it stands among the signals
  pub one_equation : (S : SourceTree) → AreAssigned (reverse S.modules) → count x (lefts (flat_equations S)) ≡ count x (wires_of (signals S))
  one_equation S are = root_says (reverse S.modules) are
