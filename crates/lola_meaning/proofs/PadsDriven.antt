-- Each pad of the root of a design that assigns what it must is driven by a statement.
use Rattle.std.proofs.Common.{◌≡◌, ℕ, ◌+◌, Bool, true, false, List, [], ◌∷◌, ◌++◌, length, reverse, None, refl, sym, ◌∙◌, ap, subst, inl, inr, arith}
use Rattle.std.specs.Prelude.{bytes_eq, flat_map}
use Rattle.std.proofs.lemmas.Bool.{cases_Bool, cond-true, cond-false}
use Rattle.std.proofs.lemmas.Grind.{flat_map-append}
use Rattle.lola_bits.specs.Lists.{IsIn}
use Rattle.lola_bits.specs.Names.{is_among}
use Rattle.lola_bits.proofs.Lists.{in_back, in_either, from_map, to_map, from_flat_map, to_flat_map}
use Rattle.lola_tree.specs.declared.module.Way.{Way}
use Rattle.lola_tree.specs.declared.module.Way.TheVariants.{Inward, Outward, Both}
use Rattle.lola_tree.specs.declared.module.Port.{Port}
use Rattle.lola_tree.specs.declared.module.LocalKind.{LocalKind}
use Rattle.lola_tree.specs.declared.module.LocalKind.TheVariants.{Reg, Var, Inst}
use Rattle.lola_tree.specs.declared.module.Local.{Local}
use Rattle.lola_tree.specs.Names.{names_of}
use Rattle.lola_tree.specs.Tree.{ActualTree, StmtTree, assignment, call, ModuleTree, SourceTree}
use Rattle.lola_tree.specs.Tree as tree
use Rattle.lola_tree.specs.Value.{Path}
use Rattle.lola_tree.specs.design.Calls.{args_of, bare_name}
use Rattle.lola_tree.specs.design.Clocks.{clocks_in, clock_ports}
use Rattle.lola_tree.specs.design.Places.{Pads, pad_of, way_pad, own_pads, passed_pads, Caller, Place, kind_places, local_places, places_inside, root_places, places}
use Rattle.lola_tree.specs.design.Signals.{Kind, pad, Signal, root_kind, root_port, root_ports, local_signals, signals_inside, root_signals}
use Rattle.lola_tree.specs.design.Equations.{Right, expression, copied, driven, Equation, caller_equations, stmt_equations, place_equations, equations}
use Rattle.lola_tree.specs.design.Cycle.{IsSignal}
use Rattle.lola_tree.specs.design.Chains.{flat_equation, flat_equations}
use Rattle.lola_design.specs.Paths.{count}
use Rattle.lola_design.specs.Drives.{pad_names}
use Rattle.lola_design.specs.Assigned.{pad_paths, driven_by, pads_inside, of_kind, of_locals, way_names, both_names, port_count, AreAsMany, CallsFit, AllCallsFit, IsAssigned, AreAssigned}
use Rattle.lola_design.proofs.Counts.{count_append}
use Rattle.lola_design.proofs.Found.{counted_in}
use Rattle.lola_design.proofs.Pads.{entered, entry}
use Rattle.lola_meaning.proofs.Lookups.{path_counted}
use Rattle.lola_meaning.proofs.KindTests.{IsPadKind}
use Rattle.lola_meaning.proofs.RootPorts.{IsOuter, locals_inside, all_inside}

-- the names of the pads of a called module, and of the root
way_front : (w : Way) (name : List ℕ) (root : Path) (rest : Pads) → pad_names (way_pad w name root ++ rest) ≡ way_names w name ++ pad_names rest
way_front Inward name root rest = refl
way_front Outward name root rest = refl
way_front Both name root rest = refl

passed_names : (pads : Pads) (ports : List Port) (args : List ActualTree) → length ports ≡ length args → pad_names (passed_pads pads ports args) ≡ both_names ports
passed_names pads [] args as_many = refl
passed_names pads (port ∷ ports) [] as_many = absurd (omega arith)
passed_names pads (port ∷ ports) (a ∷ args) as_many =
    let same : length ports ≡ length args = omega arith in
    way_front port.way port.name (pad_of pads (bare_name a.value)) (passed_pads pads ports args) ∙ ap (λ (l : List (List ℕ)). way_names port.way port.name ++ l) (passed_names pads ports args same)

own_names : (ports : List Port) → pad_names (own_pads ports) ≡ both_names ports
own_names [] = refl
own_names (port ∷ ports) = way_front port.way port.name (port.name ∷ []) (own_pads ports) ∙ ap (λ (l : List (List ℕ)). way_names port.way port.name ++ l) (own_names ports)

-- the pads that statements drive at some places
abbrev drives_of : Place → List Path
drives_of a = flat_map (driven_by a.pads) a.module_.body

abbrev driven_at : List Place → List Path
driven_at as_ = flat_map drives_of as_

module _ (x : Path) where
  driven_append : (xs ys : List Place) → count x (driven_at (xs ++ ys)) ≡ count x (driven_at xs) + count x (driven_at ys)
  driven_append xs ys = ap (count x) (flat_map-append drives_of xs ys) ∙ count_append x (driven_at xs) (driven_at ys)

  abbrev AllDrive : List ModuleTree → Type 0
  AllDrive ms = (name : List ℕ) (p : Path) (c : Caller) → AreAsMany ms name c.args → count x (driven_at (places_inside ms name p c)) ≡ count x (pads_inside ms name c)

  kind_drive : (earlier : List ModuleTree) → AllDrive earlier → (m : ModuleTree) (p : Path) (pads : Pads) (name : List ℕ) (k : LocalKind) → CallsFit earlier m k name →
      count x (driven_at (kind_places (places_inside earlier) m p pads name k)) ≡ count x (of_kind (pads_inside earlier) m p pads name k)
  kind_drive earlier so m p pads name (Reg under type) fit = refl
  kind_drive earlier so m p pads name (Var type) fit = refl
  kind_drive earlier so m p pads name (Inst of) fit = so of.name (p ++ name ∷ []) (record { module_ = m; path = p; pads = pads; args = args_of m.body name }) fit

  locals_drive : (earlier : List ModuleTree) → AllDrive earlier → (m : ModuleTree) (p : Path) (pads : Pads) (locals : List Local) → AllCallsFit earlier m locals →
      count x (driven_at (local_places (places_inside earlier) m p pads locals)) ≡ count x (of_locals (pads_inside earlier) m p pads locals)
  locals_drive earlier so m p pads [] fit = refl
  locals_drive earlier so m p pads (l ∷ locals) fit =
      let a = kind_drive earlier so m p pads l.name l.kind fit.0 in
      let b = locals_drive earlier so m p pads locals fit.1 in
      let e = driven_append (kind_places (places_inside earlier) m p pads l.name l.kind) (local_places (places_inside earlier) m p pads locals) in
      let f = count_append x (of_kind (pads_inside earlier) m p pads l.name l.kind) (of_locals (pads_inside earlier) m p pads locals) in
      omega arith

  called_drive : (earlier : List ModuleTree) → AllDrive earlier → (m : ModuleTree) (p : Path) (c : Caller) → IsAssigned earlier m → length m.ports ≡ length c.args →
      count x (driven_at (entered m earlier p c)) ≡ count x (pad_paths (passed_pads c.pads m.ports c.args))
  called_drive earlier so m p c is as_many =
      let a = entry m earlier p c in
      let rest = local_places (places_inside earlier) m p a.pads m.locals in
      let e = count_append x (drives_of a) (driven_at rest) in
      let f = locals_drive earlier so m p a.pads m.locals is.calls in
      let g = is.driven x p a.pads (passed_names c.pads m.ports c.args as_many) in
      omega arith

  inside_drive : (ms : List ModuleTree) → AreAssigned ms → AllDrive ms
  inside_drive [] are name p c fit = refl
  inside_drive (m ∷ earlier) are name p c fit = elim (cases_Bool (bytes_eq m.name name)) [
    | inl same ↦
        let many : length m.ports ≡ length c.args = sym (cond-true (bytes_eq m.name name) (length m.ports) (port_count earlier name (length c.args)) same) ∙ fit in
        ap (λ (l : List Place). count x (driven_at l)) (cond-true (bytes_eq m.name name) (entered m earlier p c) (places_inside earlier name p c) same)
        ∙ called_drive earlier (inside_drive earlier are.1) m p c are.0 many
        ∙ sym (ap (count x) (cond-true (bytes_eq m.name name) (pad_paths (passed_pads c.pads m.ports c.args)) (pads_inside earlier name c) same))
    | inr other ↦
        let fits : AreAsMany earlier name c.args = sym (cond-false (bytes_eq m.name name) (length m.ports) (port_count earlier name (length c.args)) other) ∙ fit in
        ap (λ (l : List Place). count x (driven_at l)) (cond-false (bytes_eq m.name name) (entered m earlier p c) (places_inside earlier name p c) other)
        ∙ inside_drive earlier are.1 name p c fits
        ∙ sym (ap (count x) (cond-false (bytes_eq m.name name) (pad_paths (passed_pads c.pads m.ports c.args)) (pads_inside earlier name c) other))
  ]

  root_drive : (m : ModuleTree) (earlier : List ModuleTree) → AreAssigned (m ∷ earlier) → count x (driven_at (root_places (m ∷ earlier))) ≡ count x (pad_paths (own_pads m.ports))
  root_drive m earlier are =
      let pads = own_pads m.ports in
      let a : Place = record { module_ = m; path = []; clocks = clocks_in (clock_ports earlier) m; pads = pads; caller = None } in
      let rest = local_places (places_inside earlier) m [] pads m.locals in
      let e = count_append x (drives_of a) (driven_at rest) in
      let f = locals_drive earlier (inside_drive earlier are.1) m [] pads m.locals are.0.calls in
      let g = are.0.driven x [] pads (own_names m.ports) in
      omega arith

-- the path of a pad is one of the root's
own_in : (ports : List Port) (q : Port) → IsIn q ports → q.way ≡ Both → IsIn (q.name ∷ []) (pad_paths (own_pads ports))
own_in [] q is both = absurd is
own_in (r ∷ ports) q (inl same) both = subst (λ (w : Way). IsIn (q.name ∷ []) (pad_paths (way_pad w r.name (r.name ∷ []) ++ own_pads ports))) (sym (ap (λ (k : Port). k.way) (sym same) ∙ both)) (inl (ap (λ (k : Port). k.name ∷ []) same))
own_in (r ∷ ports) q (inr later) both = behind r.way (own_in ports q later both)
  where
    behind : (w : Way) → IsIn (q.name ∷ []) (pad_paths (own_pads ports)) → IsIn (q.name ∷ []) (pad_paths (way_pad w r.name (r.name ∷ []) ++ own_pads ports))
    behind Inward is = is
    behind Outward is = is
    behind Both is = inr is

is_both : (w : Way) (b : Bool) → IsPadKind (root_kind w b) → w ≡ Both
is_both Inward true none = absurd none
is_both Inward false none = absurd none
is_both Outward b none = absurd none
is_both Both b is = refl

outer_pad : (k : Kind) → k ≡ pad → IsOuter k
outer_pad k e = subst IsOuter (sym e) tt

-- a pad is a port of the root
root_pad : (ms : List ModuleTree) → AreAssigned ms → (x : Signal) → IsIn x (root_signals ms) → x.kind ≡ pad → IsIn x.path (driven_at (root_places ms))
root_pad [] are x there kind = absurd there
root_pad (m ∷ earlier) are x there kind =
    let clocks = clocks_in (clock_ports earlier) m in
    let ports = root_ports (names_of m) clocks m.ports in
    let locals = local_signals (signals_inside earlier) (names_of m) [] m.locals in
    elim (in_either x ports locals there) [
      | inl port ↦
          let f = from_map (root_port (names_of m) clocks) x m.ports port in
          let both = is_both f.0.way (is_among clocks f.0.name) (subst IsPadKind (sym (sym (ap (λ (y : Signal). y.kind) f.2) ∙ kind)) tt) in
          let own : IsIn x.path (pad_paths (own_pads m.ports)) = subst (λ (q : Path). IsIn q (pad_paths (own_pads m.ports))) (sym (ap (λ (y : Signal). y.path) f.2)) (own_in m.ports f.0 f.1 both) in
          let some = path_counted x.path (pad_paths (own_pads m.ports)) own in
          let all = root_drive x.path m earlier are in
          counted_in x.path (driven_at (root_places (m ∷ earlier))) (omega arith)
      | inr inner ↦ absurd ((locals_inside (signals_inside earlier) (all_inside earlier) (names_of m) [] m.locals x inner).inner (outer_pad x.kind kind))
    ]

-- what drives a pad
abbrev pub IsDriven : Right → Type 0
IsDriven (expression m p e) = ⊥
IsDriven (copied other) = ⊥
IsDriven (driven m p drive release io) = Unit {0}

abbrev DrivenTo : Path → Place → StmtTree → Type 0
DrivenTo x a t = (e : Equation) × IsIn e (stmt_equations a t) × ((flat_equation e).left ≡ x) × IsDriven e.right

driven_stmt : (x : Path) (a : Place) (t : StmtTree) → IsIn x (driven_by a.pads t) → DrivenTo x a t
driven_stmt x a (assignment name place e at equals) is = absurd is
driven_stmt x a (call name args at) is = absurd is
driven_stmt x a (tree.pad io inner drive release at) (inl same) =
    (record { left = a.path ++ io.name ∷ []; right = driven a.module_ a.path drive.value release.value (pad_of a.pads io.name) }, inl refl, sym same, tt)
driven_stmt x a (tree.pad io inner drive release at) (inr none) = absurd none

pub pad_driven : (S : SourceTree) → AreAssigned (reverse S.modules) → (x : Signal) → IsSignal S pad x → (e : Equation) × IsIn e (flat_equations S) × (e.left ≡ x.path) × IsDriven e.right
pad_driven S are x there =
    let is = root_pad (reverse S.modules) are x there.0 there.1 in
    let f = from_flat_map drives_of x.path (places S) is in
    let g = from_flat_map (driven_by f.0.pads) x.path f.0.module_.body f.2 in
    let d = driven_stmt x.path f.0 g.0 g.2 in
    let said : IsIn d.0 (flat_map (stmt_equations f.0) f.0.module_.body) = to_flat_map (stmt_equations f.0) d.0 g.0 f.0.module_.body g.1 d.1 in
    let placed : IsIn d.0 (place_equations f.0) = in_back d.0 (caller_equations f.0 f.0.caller) (flat_map (stmt_equations f.0) f.0.module_.body) said in
    let all : IsIn d.0 (equations S) = to_flat_map place_equations d.0 f.0 (places S) f.1 placed in
    (flat_equation d.0, to_map flat_equation d.0 (equations S) all, d.2, d.3)
