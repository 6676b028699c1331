-- A pad of an instance carries what the root's pad carries that it stands for, so a statement that drives it
-- may as well be the equation of that pad.
use Rattle.std.proofs.Common.{◌≡◌, ◌↔◌, ℕ, Bool, true, false, List, [], ◌∷◌, ◌++◌, reverse, Option, Some, None, refl, sym, ◌∙◌, ap, subst, inl, inr}
use Rattle.std.specs.Prelude.{bytes_eq, if◌then◌else◌, flat_map}
use Rattle.std.proofs.lemmas.Bool.{cases_Bool, cond-true, cond-false, false≢true}
use Rattle.std.proofs.lemmas.Slice.Eq.{bytes_eq-Decides}
use Rattle.lola_tree.specs.declared.module.Way.{Way}
use Rattle.lola_tree.specs.declared.module.Way.TheVariants.{Inward, Outward, Both}
use Rattle.lola_tree.specs.declared.module.Port.{Port}
use Rattle.lola_tree.specs.declared.module.LocalKind.{LocalKind}
use Rattle.lola_tree.specs.declared.module.LocalKind.TheVariants.{Reg, Var, Inst}
use Rattle.lola_tree.specs.declared.module.Local.{Local}
use Rattle.lola_tree.specs.Tree.{Tree, ActualTree, StmtTree, assignment, call, pad, ModuleTree, SourceTree}
use Rattle.lola_tree.specs.Value.{Path, Values}
use Rattle.lola_bits.specs.Lists.{IsIn}
use Rattle.lola_bits.specs.Names.{is_among}
use Rattle.lola_tree.specs.Signals.{register_names}
use Rattle.lola_tree.specs.design.Places.{Pads, pad_of, way_pad, passed_pads, own_pads, Caller, Place, Inside, kind_places, local_places, places_at, places_inside, root_places, places}
use Rattle.lola_tree.specs.design.Calls.{bare_path, bare_name, args_of}
use Rattle.lola_tree.specs.design.Clocks.{clock_ports, clocks_in}
use Rattle.lola_tree.specs.design.Equations.{expression, copied, Equation, way_equations, arg_equations, caller_equations, stmt_equations, place_equations, equations, Meets, Holds}
use Rattle.lola_tree.specs.design.Chains.{flat_equation, flat_equations}
use Rattle.lola_design.specs.Drives.{pad_names, ArePassed, IsPassedBy, DrivesPad, PadsFit, MeetsAll}
use Rattle.lola_bits.proofs.Lists.{in_front, in_back, in_either, to_map, from_map, from_flat_map, to_flat_map}

-- INOUT ports at a path carry what the pads carry that they stand for
abbrev Carry : Values → Path → Pads → Type 0
Carry v p pads = (n : List ℕ) → IsIn n (pad_names pads) → v (p ++ n ∷ []) 0 ≡ v (pad_of pads n) 0

way_carries : (v : Values) (w : Way) (q : Path) (name n : List ℕ) (root : Path) (rest : Pads) → (w ≡ Both → v (q ++ name ∷ []) 0 ≡ v root 0) →
    (IsIn n (pad_names rest) → v (q ++ n ∷ []) 0 ≡ v (pad_of rest n) 0) → IsIn n (pad_names (way_pad w name root ++ rest)) → v (q ++ n ∷ []) 0 ≡ v (pad_of (way_pad w name root ++ rest) n) 0
way_carries v Inward q name n root rest here later is = later is
way_carries v Outward q name n root rest here later is = later is
way_carries v Both q name n root rest here later is = elim (cases_Bool (bytes_eq name n)) [
  | inl same ↦
      let e : name ≡ n = (bytes_eq-Decides name n).0 same in
      subst (λ (m : List ℕ). v (q ++ m ∷ []) 0 ≡ v root 0) e (here refl) ∙ ap (λ (x : Path). v x 0) (sym (cond-true (bytes_eq name n) root (pad_of rest n) same))
  | inr other ↦ elim is [
    | inl same ↦ absurd (false≢true (sym other ∙ (bytes_eq-Decides name n).1 (sym same)))
    | inr behind ↦ later behind ∙ ap (λ (x : Path). v x 0) (sym (cond-false (bytes_eq name n) root (pad_of rest n) other))
  ]
]

both_equation : (w : Way) (b : Bool) (port : Path) (m : ModuleTree) (p : Path) (a : Tree) → w ≡ Both → IsIn (record { left = port; right = copied (p ++ bare_path a) }) (way_equations w b port m p a)
both_equation w b port m p a both = subst (λ (x : Way). IsIn (record { left = port; right = copied (p ++ bare_path a) }) (way_equations x b port m p a)) (sym both) (inl refl)

-- the pads of a called module, and those of the root
passed_carry : (outside v : Values) (pads : Pads) (clocks : List (List ℕ)) (q : Path) (m : ModuleTree) (p : Path) (ports : List Port) (args : List ActualTree) →
    ArePassed pads ports args → Carry v p pads → MeetsAll outside v (arg_equations clocks q m p ports args) → Carry v q (passed_pads pads ports args)
passed_carry outside v pads clocks q m p [] args passed carry meets n is = absurd is
passed_carry outside v pads clocks q m p (port ∷ ports) [] passed carry meets n is = absurd is
passed_carry outside v pads clocks q m p (port ∷ ports) (a ∷ args) passed carry meets n is =
    let front = way_equations port.way (is_among clocks port.name) (q ++ port.name ∷ []) m p a.value in
    let back = arg_equations clocks q m p ports args in
    let one : Equation = record { left = q ++ port.name ∷ []; right = copied (p ++ bare_path a.value) } in
    way_carries v port.way q port.name n (pad_of pads (bare_name a.value)) (passed_pads pads ports args)
    (λ both.
    let f = passed.0 both in
    meets one (in_front one front back (both_equation port.way (is_among clocks port.name) (q ++ port.name ∷ []) m p a.value both))
    ∙ ap (λ (x : Path). v (p ++ x) 0) f.0 ∙ carry (bare_name a.value) f.1)
    (passed_carry outside v pads clocks q m p ports args passed.1 carry (λ e there. meets e (in_back e front back there)) n)
    is

own_carry : (v : Values) (ports : List Port) → Carry v [] (own_pads ports)
own_carry v [] n is = absurd is
own_carry v (port ∷ ports) n is = way_carries v port.way [] port.name n (port.name ∷ []) (own_pads ports) (λ both. refl) (own_carry v ports n) is

-- what is known of each place
abbrev Known : Values → Values → Place → Type 0
Known outside v a = IsPassedBy a a.caller × MeetsAll outside v (caller_equations a a.caller)

abbrev AllCarry : Values → Values → List Place → Type 0
AllCarry outside v as_ = ((a : Place) → IsIn a as_ → Known outside v a) → (a : Place) → IsIn a as_ → Carry v a.path a.pads

abbrev pub entered : ModuleTree → List ModuleTree → Path → Caller → List Place
entered m earlier p c = places_at (clock_ports earlier) (places_inside earlier) m p (Some c) (passed_pads c.pads m.ports c.args)

abbrev pub entry : ModuleTree → List ModuleTree → Path → Caller → Place
entry m earlier p c = record { module_ = m; path = p; clocks = clocks_in (clock_ports earlier) m; pads = passed_pads c.pads m.ports c.args; caller = Some c }

module _ (outside v : Values) where
  kind_carry : (inside : Inside) → ((name : List ℕ) (p : Path) (c : Caller) → Carry v c.path c.pads → AllCarry outside v (inside name p c)) →
      (m : ModuleTree) (p : Path) (pads : Pads) → Carry v p pads → (name : List ℕ) (k : LocalKind) → AllCarry outside v (kind_places inside m p pads name k)
  kind_carry inside so m p pads carry name (Reg clock type) known a is = absurd is
  kind_carry inside so m p pads carry name (Var type) known a is = absurd is
  kind_carry inside so m p pads carry name (Inst of) known a is = so of.name (p ++ name ∷ []) (record { module_ = m; path = p; pads = pads; args = args_of m.body name }) carry known a is

  local_carry : (inside : Inside) → ((name : List ℕ) (p : Path) (c : Caller) → Carry v c.path c.pads → AllCarry outside v (inside name p c)) →
      (m : ModuleTree) (p : Path) (pads : Pads) → Carry v p pads → (locals : List Local) → AllCarry outside v (local_places inside m p pads locals)
  local_carry inside so m p pads carry [] known a is = absurd is
  local_carry inside so m p pads carry (l ∷ locals) known a is =
      let front = kind_places inside m p pads l.name l.kind in
      let back = local_places inside m p pads locals in
      elim (in_either a front back is) [
        | inl here ↦ kind_carry inside so m p pads carry l.name l.kind (λ b there. known b (in_front b front back there)) a here
        | inr later ↦ local_carry inside so m p pads carry locals (λ b there. known b (in_back b front back there)) a later
      ]

  at_carry : (seen : List ℕ → List Bool) (inside : Inside) → ((name : List ℕ) (p : Path) (c : Caller) → Carry v c.path c.pads → AllCarry outside v (inside name p c)) →
      (m : ModuleTree) (p : Path) (c : Option Caller) (pads : Pads) → Carry v p pads → AllCarry outside v (places_at seen inside m p c pads)
  at_carry seen inside so m p c pads carry known a (inl same) = subst (λ (b : Place). Carry v b.path b.pads) (sym same) carry
  at_carry seen inside so m p c pads carry known a (inr later) = local_carry inside so m p pads carry m.locals (λ b there. known b (inr there)) a later

  inside_carry : (ms : List ModuleTree) (name : List ℕ) (p : Path) (c : Caller) → Carry v c.path c.pads → AllCarry outside v (places_inside ms name p c)
  inside_carry [] name p c carry = λ known a is. absurd is
  inside_carry (m ∷ earlier) name p c carry = elim (cases_Bool (bytes_eq m.name name)) [
    | inl same ↦ subst (AllCarry outside v) (sym (cond-true (bytes_eq m.name name) (entered m earlier p c) (places_inside earlier name p c) same)) (λ known.
        let k = known (entry m earlier p c) (inl refl) in
        at_carry (clock_ports earlier) (places_inside earlier) (inside_carry earlier) m p (Some c) (passed_pads c.pads m.ports c.args)
        (passed_carry outside v c.pads (clocks_in (clock_ports earlier) m) p c.module_ c.path m.ports c.args k.0 carry k.1) known)
    | inr other ↦ subst (AllCarry outside v) (sym (cond-false (bytes_eq m.name name) (entered m earlier p c) (places_inside earlier name p c) other)) (inside_carry earlier name p c carry)
  ]

  root_carry : (ms : List ModuleTree) → AllCarry outside v (root_places ms)
  root_carry [] = λ known a is. absurd is
  root_carry (m ∷ earlier) = at_carry (clock_ports earlier) (places_inside earlier) (inside_carry earlier) m [] None (own_pads m.ports) (own_carry v m.ports)

-- what isn't driven keeps its left side
way_same : (w : Way) (b : Bool) (port : Path) (m : ModuleTree) (p : Path) (a : Tree) (e : Equation) → IsIn e (way_equations w b port m p a) → flat_equation e ≡ e
way_same Inward true port m p a e is = absurd is
way_same Inward false port m p a e (inl same) = subst (λ (d : Equation). flat_equation d ≡ d) (sym same) refl
way_same Inward false port m p a e (inr none) = absurd none
way_same Outward b port m p a e (inl same) = subst (λ (d : Equation). flat_equation d ≡ d) (sym same) refl
way_same Outward b port m p a e (inr none) = absurd none
way_same Both b port m p a e (inl same) = subst (λ (d : Equation). flat_equation d ≡ d) (sym same) refl
way_same Both b port m p a e (inr none) = absurd none

args_same : (clocks : List (List ℕ)) (q : Path) (m : ModuleTree) (p : Path) (ports : List Port) (args : List ActualTree) (e : Equation) → IsIn e (arg_equations clocks q m p ports args) → flat_equation e ≡ e
args_same clocks q m p [] args e is = absurd is
args_same clocks q m p (port ∷ ports) [] e is = absurd is
args_same clocks q m p (port ∷ ports) (a ∷ args) e is =
    elim (in_either e (way_equations port.way (is_among clocks port.name) (q ++ port.name ∷ []) m p a.value) (arg_equations clocks q m p ports args) is) [
      | inl here ↦ way_same port.way (is_among clocks port.name) (q ++ port.name ∷ []) m p a.value e here
      | inr later ↦ args_same clocks q m p ports args e later
    ]

caller_same : (a : Place) (c : Option Caller) (e : Equation) → IsIn e (caller_equations a c) → flat_equation e ≡ e
caller_same a None e is = absurd is
caller_same a (Some c) e is = args_same a.clocks a.path c.module_ c.path a.module_.ports c.args e is

module _ (S : SourceTree) (fit : PadsFit S) (outside v : Values) where
  -- the equations of arguments hold either way
  known_of : ((a : Place) → IsIn a (places S) → MeetsAll outside v (caller_equations a a.caller)) → (a : Place) → IsIn a (places S) → Carry v a.path a.pads
  known_of meets = root_carry outside v (reverse S.modules) (λ a is. (fit.passed a is, meets a is))

  -- the left side of an equation and that of its flat one carry the same
  if_same : (b : Bool) (one : Equation) (e : Equation) → flat_equation one ≡ one → IsIn e (if b then [] else one ∷ []) → flat_equation e ≡ e
  if_same true one e same is = absurd is
  if_same false one e same (inl is) = subst (λ (d : Equation). flat_equation d ≡ d) (sym is) same
  if_same false one e same (inr none) = absurd none

  stmt_left : (a : Place) → Carry v a.path a.pads → (t : StmtTree) → DrivesPad a.pads t → (e : Equation) → IsIn e (stmt_equations a t) → v (flat_equation e).left 0 ≡ v e.left 0
  stmt_left a carry (assignment name place x at equals) drives e is =
      ap (λ (d : Equation). v d.left 0) (if_same (is_among (register_names a.module_.locals) name) (record { left = a.path ++ name ∷ []; right = expression a.module_ a.path x }) e refl is)
  stmt_left a carry (call name args at) drives e is = absurd is
  stmt_left a carry (pad io inner drive release at) drives e (inl same) =
      subst (λ (d : Equation). v (flat_equation d).left 0 ≡ v d.left 0) (sym same) (sym (carry io.name drives))
  stmt_left a carry (pad io inner drive release at) drives e (inr (inl same)) = subst (λ (d : Equation). v (flat_equation d).left 0 ≡ v d.left 0) (sym same) refl
  stmt_left a carry (pad io inner drive release at) drives e (inr (inr none)) = absurd none

  left_same : ((a : Place) → IsIn a (places S) → Carry v a.path a.pads) → (e : Equation) → IsIn e (equations S) → v (flat_equation e).left 0 ≡ v e.left 0
  left_same carry e is =
      let p = from_flat_map place_equations e (places S) is in
      let a = p.0 in
      elim (in_either e (caller_equations a a.caller) (flat_map (stmt_equations a) a.module_.body) p.2) [
        | inl called ↦ ap (λ (d : Equation). v d.left 0) (caller_same a a.caller e called)
        | inr said ↦
            let t = from_flat_map (stmt_equations a) e a.module_.body said in
            stmt_left a (carry a p.1) t.0 (fit.drives a p.1 t.0 t.1) e t.2
      ]

  called_in : (a : Place) (e : Equation) → IsIn a (places S) → IsIn e (caller_equations a a.caller) → IsIn e (equations S)
  called_in a e is there = to_flat_map place_equations e a (places S) is (in_front e (caller_equations a a.caller) (flat_map (stmt_equations a) a.module_.body) there)

  to_flat : Holds S outside v → MeetsAll outside v (flat_equations S)
  to_flat holds f is =
      let e = from_map flat_equation f (equations S) is in
      let same = left_same (known_of (λ a there d called. holds d (called_in a d there called))) e.0 e.1 in
      subst (λ (d : Equation). Meets outside v d) (sym e.2) (same ∙ holds e.0 e.1)

  from_flat : MeetsAll outside v (flat_equations S) → Holds S outside v
  from_flat meets e is =
      let in_flat : (d : Equation) → IsIn d (equations S) → Meets outside v (flat_equation d) = λ d there. meets (flat_equation d) (to_map flat_equation d (equations S) there) in
      let same = left_same (known_of (λ a there d called. subst (λ (c : Equation). Meets outside v c) (caller_same a a.caller d called) (in_flat d (called_in a d there called)))) e is in
      sym same ∙ in_flat e is

  pub pads_flat : Holds S outside v ↔ MeetsAll outside v (flat_equations S)
  pads_flat = (to_flat, from_flat)
