-- The left sides of the updates are the registers, each as often.
use Rattle.std.proofs.Common.{◌≡◌, ℕ, ◌+◌, Bool, true, false, List, [], ◌∷◌, ◌++◌, reverse, None, refl, ◌∙◌, ap, inl, inr, arith}
use Rattle.std.specs.Prelude.{bytes_eq, if◌then◌else◌, flat_map}
use Rattle.std.proofs.lemmas.Bool.{cases_Bool, cond-true, cond-false}
use Rattle.lola_bits.specs.Names.{is_among}
use Rattle.lola_tree.specs.declared.named.Shape.{Shape}
use Rattle.lola_tree.specs.declared.module.Way.{Way}
use Rattle.lola_tree.specs.declared.module.Way.TheVariants.{Inward, Outward, Both}
use Rattle.lola_tree.specs.declared.module.Port.{Port}
use Rattle.lola_tree.specs.declared.module.LocalKind.{LocalKind}
use Rattle.lola_tree.specs.declared.module.LocalKind.TheVariants.{Reg, Var, Inst}
use Rattle.lola_tree.specs.declared.module.Local.{Local}
use Rattle.lola_tree.specs.Names.{Names, names_of}
use Rattle.lola_tree.specs.Tree.{StmtTree, assignment, call, pad, ModuleTree, SourceTree}
use Rattle.lola_tree.specs.Value.{Path}
use Rattle.lola_tree.specs.Signals.{register_names}
use Rattle.lola_tree.specs.design.Calls.{args_of}
use Rattle.lola_tree.specs.design.Clocks.{clocks_in, clock_ports}
use Rattle.lola_tree.specs.design.Places.{Pads, own_pads, Caller, Place, kind_places, local_places, places_inside, root_places}
use Rattle.lola_tree.specs.design.Signals.{wire, Signal, root_kind, root_port, root_ports, shown_port, instance_port, instance_ports, kind_signals, local_signals, signals_at, signals_inside, root_signals, signals}
use Rattle.lola_tree.specs.design.Equations.{Update, stmt_updates, place_updates, updates}
use Rattle.lola_design.specs.Paths.{count, update_lefts, is_register, paths_where}
use Rattle.lola_design.specs.Assigned.{reg_path, reg_paths, stored_by, IsAssigned, AreAssigned}
use Rattle.lola_design.proofs.Counts.{count_append, where_append}
use Rattle.lola_design.proofs.Pads.{entered, entry}

abbrev registers_of : List Signal → List Path
registers_of xs = paths_where is_register xs

-- ports are no registers
port_no_register : (x : Path) (w : Way) (b : Bool) (s : Signal) → s.kind ≡ wire → count x (registers_of (shown_port w b s)) ≡ 0
port_no_register x Inward true s kind = refl
port_no_register x Inward false s kind = rw kind refl
port_no_register x Outward b s kind = rw kind refl
port_no_register x Both b s kind = rw kind refl

ports_no_register : (x : Path) (names : Names) (clocks : List (List ℕ)) (q : Path) (ports : List Port) → count x (registers_of (instance_ports names clocks q ports)) ≡ 0
ports_no_register x names clocks q [] = refl
ports_no_register x names clocks q (p ∷ ports) =
    let e0 = where_append x is_register (instance_port names clocks q p) (instance_ports names clocks q ports) in
    let e1 = port_no_register x p.way (is_among clocks p.name) (record { path = q ++ p.name ∷ []; kind = wire; names = names; type = p.shape }) refl in
    let e2 = ports_no_register x names clocks q ports in
    omega arith

root_no_register : (x : Path) (w : Way) (b : Bool) (name : Path) (names : Names) (type : Shape) → count x (registers_of (record { path = name; kind = root_kind w b; names = names; type = type } ∷ [])) ≡ 0
root_no_register x Inward true name names type = refl
root_no_register x Inward false name names type = refl
root_no_register x Outward b name names type = refl
root_no_register x Both b name names type = refl

roots_no_register : (x : Path) (names : Names) (clocks : List (List ℕ)) (ports : List Port) → count x (registers_of (root_ports names clocks ports)) ≡ 0
roots_no_register x names clocks [] = refl
roots_no_register x names clocks (p ∷ ports) =
    let e0 = where_append x is_register (root_port names clocks p ∷ []) (root_ports names clocks ports) in
    let e1 = root_no_register x p.way (is_among clocks p.name) (p.name ∷ []) names p.shape in
    let e2 = roots_no_register x names clocks ports in
    omega arith

-- updates
lefts_append : (xs ys : List Update) → update_lefts (xs ++ ys) ≡ update_lefts xs ++ update_lefts ys
lefts_append [] ys = refl
lefts_append (u ∷ xs) ys = ap (λ (l : List Path). u.left ∷ l) (lefts_append xs ys)

count_lefts : (x : Path) (xs ys : List Update) → count x (update_lefts (xs ++ ys)) ≡ count x (update_lefts xs) + count x (update_lefts ys)
count_lefts x xs ys = ap (count x) (lefts_append xs ys) ∙ count_append x (update_lefts xs) (update_lefts ys)

if_left : (b : Bool) (u : Update) → update_lefts (if b then u ∷ [] else []) ≡ (if b then u.left ∷ [] else [])
if_left true u = refl
if_left false u = refl

stmt_left : (a : Place) (t : StmtTree) → update_lefts (stmt_updates a t) ≡ stored_by a.path a.module_ t
stmt_left a (assignment name place e at equals) =
    if_left (is_among (register_names a.module_.locals) name) (record { left = a.path ++ name ∷ []; module_ = a.module_; path = a.path; place = place; value = e })
stmt_left a (call name args at) = refl
stmt_left a (pad io inner drive release at) = refl

body_stored : (x : Path) (a : Place) (ts : List StmtTree) → count x (update_lefts (flat_map (stmt_updates a) ts)) ≡ count x (flat_map (stored_by a.path a.module_) ts)
body_stored x a [] = refl
body_stored x a (t ∷ ts) =
    let e0 = count_lefts x (stmt_updates a t) (flat_map (stmt_updates a) ts) in
    let e1 = ap (count x) (stmt_left a t) in
    let e2 = body_stored x a ts in
    let e3 = count_append x (stored_by a.path a.module_ t) (flat_map (stored_by a.path a.module_) ts) in
    omega arith

abbrev stored_at : List Place → List Path
stored_at as_ = update_lefts (flat_map place_updates as_)

stored_append : (x : Path) (xs ys : List Place) → count x (stored_at (xs ++ ys)) ≡ count x (stored_at xs) + count x (stored_at ys)
stored_append x [] ys = omega arith
stored_append x (a ∷ xs) ys =
    let e0 = count_lefts x (place_updates a) (flat_map place_updates (xs ++ ys)) in
    let e1 = count_lefts x (place_updates a) (flat_map place_updates xs) in
    let e2 = stored_append x xs ys in
    omega arith

abbrev AllStore : Path → List ModuleTree → Type 0
AllStore x earlier = (name : List ℕ) (p : Path) (c : Caller) → count x (stored_at (places_inside earlier name p c)) ≡ count x (registers_of (signals_inside earlier name p))

module _ (x : Path) where
  kind_stored : (earlier : List ModuleTree) → AllStore x earlier → (m : ModuleTree) (p : Path) (pads : Pads) (name : List ℕ) (k : LocalKind) →
      count x (stored_at (kind_places (places_inside earlier) m p pads name k)) + count x (reg_path k (p ++ name ∷ [])) ≡ count x (registers_of (kind_signals (signals_inside earlier) (names_of m) (p ++ name ∷ []) k))
  kind_stored earlier so m p pads name (Reg under type) = omega arith
  kind_stored earlier so m p pads name (Var type) = omega arith
  kind_stored earlier so m p pads name (Inst of) =
      let e = so of.name (p ++ name ∷ []) (record { module_ = m; path = p; pads = pads; args = args_of m.body name }) in omega arith

  locals_stored : (earlier : List ModuleTree) → AllStore x earlier → (m : ModuleTree) (p : Path) (pads : Pads) (locals : List Local) →
      count x (stored_at (local_places (places_inside earlier) m p pads locals)) + count x (reg_paths p locals) ≡ count x (registers_of (local_signals (signals_inside earlier) (names_of m) p locals))
  locals_stored earlier so m p pads [] = omega arith
  locals_stored earlier so m p pads (l ∷ locals) =
      let e0 = kind_stored earlier so m p pads l.name l.kind in
      let e1 = locals_stored earlier so m p pads locals in
      let e2 = stored_append x (kind_places (places_inside earlier) m p pads l.name l.kind) (local_places (places_inside earlier) m p pads locals) in
      let e3 = where_append x is_register (kind_signals (signals_inside earlier) (names_of m) (p ++ l.name ∷ []) l.kind) (local_signals (signals_inside earlier) (names_of m) p locals) in
      let e4 = count_append x (reg_path l.kind (p ++ l.name ∷ [])) (reg_paths p locals) in
      omega arith

  called_stored : (earlier : List ModuleTree) → AllStore x earlier → (m : ModuleTree) (p : Path) (c : Caller) → IsAssigned earlier m →
      count x (stored_at (entered m earlier p c)) ≡ count x (registers_of (signals_at (clock_ports earlier) (signals_inside earlier) m p))
  called_stored earlier so m p c is =
      let a = entry m earlier p c in
      let rest = local_places (places_inside earlier) m p a.pads m.locals in
      let e0 = count_lefts x (place_updates a) (flat_map place_updates rest) in
      let e1 = body_stored x a m.body in
      let e2 = locals_stored earlier so m p a.pads m.locals in
      let e3 = is.stored x p in
      let e4 = where_append x is_register (instance_ports (names_of m) a.clocks p m.ports) (local_signals (signals_inside earlier) (names_of m) p m.locals) in
      let e5 = ports_no_register x (names_of m) a.clocks p m.ports in
      omega arith

  inside_stored : (ms : List ModuleTree) → AreAssigned ms → AllStore x ms
  inside_stored [] are name p c = omega arith
  inside_stored (m ∷ earlier) are name p c = elim (cases_Bool (bytes_eq m.name name)) [
    | inl same ↦
        let stored = called_stored earlier (inside_stored earlier are.1) m p c are.0 in
        let e0 = ap (λ (l : List Place). count x (stored_at l)) (cond-true (bytes_eq m.name name) (entered m earlier p c) (places_inside earlier name p c) same) in
        let e1 = ap (λ (l : List Signal). count x (registers_of l)) (cond-true (bytes_eq m.name name) (signals_at (clock_ports earlier) (signals_inside earlier) m p) (signals_inside earlier name p) same) in
        omega arith
    | inr other ↦
        let stored = inside_stored earlier are.1 name p c in
        let e0 = ap (λ (l : List Place). count x (stored_at l)) (cond-false (bytes_eq m.name name) (entered m earlier p c) (places_inside earlier name p c) other) in
        let e1 = ap (λ (l : List Signal). count x (registers_of l)) (cond-false (bytes_eq m.name name) (signals_at (clock_ports earlier) (signals_inside earlier) m p) (signals_inside earlier name p) other) in
        omega arith
  ]

  root_stored : (ms : List ModuleTree) → AreAssigned ms → count x (stored_at (root_places ms)) ≡ count x (registers_of (root_signals ms))
  root_stored [] are = refl
  root_stored (m ∷ earlier) are =
      let pads = own_pads m.ports in
      let clocks = clocks_in (clock_ports earlier) m in
      let a : Place = record { module_ = m; path = []; clocks = clocks; pads = pads; caller = None } in
      let rest = local_places (places_inside earlier) m [] pads m.locals in
      let e0 = count_lefts x (place_updates a) (flat_map place_updates rest) in
      let e1 = body_stored x a m.body in
      let e2 = locals_stored earlier (inside_stored earlier are.1) m [] pads m.locals in
      let e3 = are.0.stored x [] in
      let e4 = where_append x is_register (root_ports (names_of m) clocks m.ports) (local_signals (signals_inside earlier) (names_of m) [] m.locals) in
      let e5 = roots_no_register x (names_of m) clocks m.ports in
      omega arith

  -- each register has as many updates as it stands among the signals
  pub one_update : (S : SourceTree) → AreAssigned (reverse S.modules) → count x (update_lefts (updates S)) ≡ count x (registers_of (signals S))
  one_update S are = root_stored (reverse S.modules) are
