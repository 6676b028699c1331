-- The clocks of the modules of a well sized source are those that its faults are found with.
use Rattle.std.proofs.Common.{◌≡◌, ◌≢◌, ℕ, Bool, true, false, cond, List, [], ◌∷◌, ◌++◌, map, Option, Some, None, refl, sym, ◌∙◌, ap, ap₂, subst, inl, inr, ◌⊎◌}
use Rattle.std.specs.Prelude.{bytes_eq, if◌then◌else◌}
use Rattle.std.proofs.lemmas.Bool.{cases_Bool, cond-true, cond-false}
use Rattle.lola_bits.specs.Lists.{IsIn, AreDistinct}
use Rattle.lola_bits.specs.Names.{is_among}
use Rattle.lola_bits.proofs.Lists.{both_none, in_either, in_front, in_back, to_flat_map, from_flat_map}
use Rattle.lola_bits.proofs.Names.{same_name, among, is_in}
use Rattle.lola_bits.proofs.Tests.{not_both, none_unless, chosen}
use Rattle.lola_tree.specs.declared.named.Ref.{Ref}
use Rattle.lola_tree.specs.declared.module.Port.{Port}
use Rattle.lola_tree.specs.declared.module.LocalKind.{LocalKind}
use Rattle.lola_tree.specs.declared.module.LocalKind.TheVariants.{Reg, Var, Inst}
use Rattle.lola_tree.specs.declared.module.Local.{Local}
use Rattle.lola_tree.specs.Tree.{Tree, ActualTree, StmtTree, assignment, call, pad, ModuleTree}
use Rattle.lola_tree.specs.Names.{Entry, Names, names_of, first_name, ref_name}
use Rattle.lola_tree.specs.design.Calls.{args_of, bare_name}
use Rattle.lola_tree.specs.design.Clocks.{passed_clocks, kind_clocks, clocks_in, clock_ports}
use Rattle.lola_width.specs.declared.uses.Use.TheVariants as use_
use Rattle.lola_width.specs.declared.interface.Pin.{Pin}
use Rattle.lola_width.specs.Interface.{Seen, or_first, kind_pins, instance_pins, listed, is_clock_port, kind_clock, locals_clock, bare_clock, arg_clock, args_clock, body_clock, is_clock, pins_of}
use Rattle.lola_width.specs.Interface.{bare_name as bare_ref}
use Rattle.lola_width.specs.NameFaults.{use_faults, no_clock, type_faults, kind_faults, local_faults, expr_faults, clock_faults, way_faults, arg_faults, args_faults, stmt_faults, body_faults, other_clock}
use Rattle.lola_width.specs.AssignmentFaults.{none_taken, args_targets, body_targets}
use Rattle.lola_width.specs.Sized.{clock_in}
use Rattle.lola_regular.specs.Clocked.{seen_behind, IsClocked, AreClocked}
use Rattle.lola_regular.proofs.Clean.{AllClean, seen_here, seen_further}
use Rattle.lola_regular.proofs.Named.{are_distinct, local_named, local_found}
use Rattle.lola_regular.proofs.Ways.{is_the_clock}
use Rattle.lola_regular.proofs.Targets.{target_names, instance_entry, called_is, bare_same, distinct_targets}
use Rattle.lola_regular.proofs.Exchange.{called_here, not_called, rest_target, rest_distinct, instance_local, args_free}

-- which pins are clocks
abbrev pub pin_clocks : List Pin → List Bool
pin_clocks pins = map (λ (pin : Pin). pin.clock) pins

pub bare_ref_name : (e : Tree) (r : Ref) → bare_ref e ≡ Some r → bare_name e ≡ ref_name r
bare_ref_name e r is = ap first_name (bare_same e r is)

-- a name that is passed to a clock port is the clock
free_clock : (names : Names) (clock : Option (List ℕ)) (a : ActualTree) (o : Option Ref) → bare_ref a.value ≡ o → clock_faults names clock a o ≡ [] → clock ≡ Some (bare_name a.value)
free_clock names clock a None is none = absurd (let f = (both_none (expr_faults names clock a.value) _ none).1 in cc)
free_clock names clock a (Some r) is none =
    let two = both_none (use_faults use_.Value r.at (ref_name r) (names (ref_name r))) (other_clock clock r.at (ref_name r)) none in
    is_the_clock clock (ref_name r) (none_unless (is_clock clock (ref_name r)) _ two.1) ∙ ap (λ (n : List ℕ). Some n) (sym (bare_ref_name a.value r is))

pub passed_sound : (names : Names) (clock : Option (List ℕ)) (pins : List Pin) (args : List ActualTree) → args_faults names clock args pins ≡ [] → (c : List ℕ) → IsIn c (passed_clocks (pin_clocks pins) args) → clock ≡ Some c
passed_sound names clock [] args none c is = absurd is
passed_sound names clock (pin ∷ pins) [] none c is = absurd is
passed_sound names clock (pin ∷ pins) (a ∷ args) none c is =
    let two = both_none (arg_faults names clock (Some pin) a) (args_faults names clock args pins) none in
    elim (in_either c (if pin.clock then bare_name a.value ∷ [] else []) (passed_clocks (pin_clocks pins) args) is) [
      | inl here ↦ by_clock pin.clock two.0 here
      | inr later ↦ passed_sound names clock pins args two.1 c later
    ]
  where
    by_clock : (k : Bool) → cond k (clock_faults names clock a (bare_ref a.value)) (way_faults names clock pin.way a) ≡ [] →
        IsIn c (if k then bare_name a.value ∷ [] else []) → clock ≡ Some c
    by_clock true free (inl same) = free_clock names clock a (bare_ref a.value) refl free ∙ ap (λ (n : List ℕ). Some n) (sym same)
    by_clock true free (inr more) = absurd more
    by_clock false free here = absurd here

-- and the first that may be a clock and is passed to a clock port is passed
first_of : (a b : Option (List ℕ)) (c : List ℕ) → or_first a b ≡ Some c → (a ≡ Some c) ⊎ (b ≡ Some c)
first_of None b c e = inr e
first_of (Some x) b c e = inl e

bare_clocked : (names : Names) (e : Tree) (o : Option Ref) (c : List ℕ) → bare_ref e ≡ o → bare_clock names o ≡ Some c → c ≡ bare_name e
bare_clocked names e None c is clocked = absurd (let f : None ≡ Some c = clocked in cc)
bare_clocked names e (Some r) c is clocked = sym (chosen (is_clock_port names (names (ref_name r))) (ref_name r) c clocked).1 ∙ sym (bare_ref_name e r is)

no_pins : (names : Names) (args : List ActualTree) (c : List ℕ) → args_clock names args [] ≡ Some c → ⊥
no_pins names [] c e = let f : None ≡ Some c = e in cc
no_pins names (a ∷ args) c e = no_pins names args c e

passed_complete : (names : Names) (pins : List Pin) (args : List ActualTree) (c : List ℕ) → args_clock names args pins ≡ Some c → IsIn c (passed_clocks (pin_clocks pins) args)
passed_complete names [] args c e = absurd (no_pins names args c e)
passed_complete names (pin ∷ pins) [] c e = absurd (let f : None ≡ Some c = e in cc)
passed_complete names (pin ∷ pins) (a ∷ args) c e = elim (first_of (arg_clock names (Some pin) a.value) (args_clock names args pins) c e) [
  | inl here ↦ in_front c (if pin.clock then bare_name a.value ∷ [] else []) (passed_clocks (pin_clocks pins) args) (by_clock pin.clock here)
  | inr later ↦ in_back c (if pin.clock then bare_name a.value ∷ [] else []) (passed_clocks (pin_clocks pins) args) (passed_complete names pins args c later)
]
  where
    by_clock : (k : Bool) → cond k (bare_clock names (bare_ref a.value)) None ≡ Some c → IsIn c (if k then bare_name a.value ∷ [] else [])
    by_clock true clocked = inl (bare_clocked names a.value (bare_ref a.value) c refl clocked)
    by_clock false clocked = absurd (let f : None ≡ Some c = clocked in cc)

-- the statement that gives a body its clock is the call of its name
body_call : (names : Names) (seen : Seen) (clock : Option (List ℕ)) (body : List StmtTree) (c : List ℕ) → AreDistinct (target_names (body_targets names seen body)) → body_faults names seen clock body ≡ [] →
    body_clock names seen body ≡ Some c →
    (name : List ℕ) × IsIn name (target_names (body_targets names seen body)) × (instance_entry (names name) ≡ true) × (args_clock names (args_of body name) (listed (instance_pins seen (names name))) ≡ Some c)
body_call names seen clock [] c distinct none e = absurd (let f : None ≡ Some c = e in cc)
body_call names seen clock (assignment other place v at equals ∷ body) c distinct none e =
    let two = both_none (stmt_faults names seen clock (assignment other place v at equals)) (body_faults names seen clock body) none in
    let later = body_call names seen clock body c distinct.1 two.1 e in
    (later.0, inr later.1, later.2, later.3)
body_call names seen clock (call other args at ∷ body) c distinct none e =
    let pins = listed (instance_pins seen (names other)) in
    let two = both_none (stmt_faults names seen clock (call other args at)) (body_faults names seen clock body) none in
    let three = both_none (use_faults use_.Called at other (names other)) (args_faults names clock args pins) two.0 in
    let targets = args_targets args pins in
    elim (first_of (args_clock names args pins) (body_clock names seen body) c e) [
      | inl here ↦ (
        other,
        inl refl,
        called_is at other (names other) three.0,
        subst (λ (l : List ActualTree). args_clock names l pins ≡ Some c) (sym (called_here other args at body other refl)) here,
      )
      | inr behind ↦
          let later = body_call names seen clock body c (rest_distinct targets (body_targets names seen body) distinct.1) two.1 behind in
          let there = rest_target later.0 targets (body_targets names seen body) later.1 in
          let apart : other ≢ later.0 = λ same. distinct.0 (subst (λ (n : List ℕ). IsIn n (target_names (targets ++ body_targets names seen body))) (sym same) there) in (
            later.0,
            inr there,
            later.2,
            subst (λ (l : List ActualTree). args_clock names l (listed (instance_pins seen (names later.0))) ≡ Some c) (sym (not_called other args at body later.0 apart)) later.3,
          )
    ]
body_call names seen clock (pad io inner drive release at ∷ body) c distinct none e =
    let two = both_none (stmt_faults names seen clock (pad io inner drive release at)) (body_faults names seen clock body) none in
    let later = body_call names seen clock body c distinct.1.1 two.1 e in
    (later.0, inr (inr later.1), later.2, later.3)

-- the faults of a local name
pub local_free : (names : Names) (seen : Seen) (clock : Option (List ℕ)) (ls : List Local) → local_faults names seen clock ls ≡ [] →
    (l : Local) → IsIn l ls → kind_faults names seen clock l.at l.name l.kind ≡ []
local_free names seen clock [] none l is = absurd is
local_free names seen clock (k ∷ ls) none l is =
    let one = both_none (kind_faults names seen clock k.at k.name k.kind) (local_faults names seen clock ls) none in
    elim is [
      | inl same ↦ subst (λ (x : Local). kind_faults names seen clock x.at x.name x.kind ≡ []) (sym same) one.0
      | inr later ↦ local_free names seen clock ls one.1 l later
    ]

register_clock : (names : Names) (clock : Option (List ℕ)) (at : ℕ) (name : List ℕ) (o : Option Entry) → no_clock names clock at name o ≡ [] → clock ≡ Some name
register_clock names clock at name None none = absurd (cc)
register_clock names clock at name (Some e) none = is_the_clock clock name (none_unless (is_clock clock name) _ none)

-- what instances pass, by the pins of their modules
pub local_args : (earlier : List ModuleTree) (m : ModuleTree) → AllClean (m ∷ earlier) → (l : Local) → IsIn l m.locals →
    args_faults (names_of m) (clock_in (seen_behind earlier) m) (args_of m.body l.name) (listed (kind_pins (seen_behind earlier) l.kind)) ≡ []
local_args earlier m clean l is =
    let seen = seen_behind earlier in
    subst (λ (o : Option Entry). args_faults (names_of m) (clock_in seen m) (args_of m.body l.name) (listed (instance_pins seen o)) ≡ []) (local_named m l (are_distinct m clean.0.doubled) is)
    (args_free (names_of m) seen (clock_in seen m) m.body l.name clean.0.body)

abbrev PortsAre : List ModuleTree → Type 0
PortsAre earlier = (name : List ℕ) → clock_ports earlier name ≡ pin_clocks (listed (seen_behind earlier name))

sound : (earlier : List ModuleTree) (m : ModuleTree) → AllClean (m ∷ earlier) → PortsAre earlier → (c : List ℕ) → IsIn c (clocks_in (clock_ports earlier) m) → clock_in (seen_behind earlier) m ≡ Some c
sound earlier m clean ports c is =
    let f = from_flat_map (λ (l : Local). kind_clocks (clock_ports earlier) m.body l.name l.kind) c m.locals is in
    let seen = seen_behind earlier in
    by_kind f.0.at f.0.name f.0.kind (local_free (names_of m) seen (clock_in seen m) m.locals clean.0.locals f.0 f.1) (local_args earlier m clean f.0 f.1) f.2
  where
    by_kind : (at : ℕ) (name : List ℕ) (k : LocalKind) → kind_faults (names_of m) (seen_behind earlier) (clock_in (seen_behind earlier) m) at name k ≡ [] →
        args_faults (names_of m) (clock_in (seen_behind earlier) m) (args_of m.body name) (listed (kind_pins (seen_behind earlier) k)) ≡ [] →
        IsIn c (kind_clocks (clock_ports earlier) m.body name k) → clock_in (seen_behind earlier) m ≡ Some c
    by_kind at name (Reg under type) free args (inl same) =
        let one = both_none (no_clock (names_of m) (clock_in (seen_behind earlier) m) under.at under.name (names_of m under.name)) (type_faults (names_of m) true at name type) free in
        register_clock (names_of m) (clock_in (seen_behind earlier) m) under.at under.name (names_of m under.name) one.0 ∙ ap (λ (n : List ℕ). Some n) (sym same)
    by_kind at name (Reg under type) free args (inr more) = absurd more
    by_kind at name (Var type) free args there = absurd there
    by_kind at name (Inst of) free args there =
        passed_sound (names_of m) (clock_in (seen_behind earlier) m) (listed (seen_behind earlier of.name)) (args_of m.body name) args c
        (subst (λ (bs : List Bool). IsIn c (passed_clocks bs (args_of m.body name))) (ports of.name) there)

locals_clocked : (names : Names) (ls : List Local) (c : List ℕ) → locals_clock names ls ≡ Some c → (l : Local) × IsIn l ls × (kind_clock names l.kind ≡ Some c)
locals_clocked names [] c e = absurd (let f : None ≡ Some c = e in cc)
locals_clocked names (l ∷ ls) c e = elim (first_of (kind_clock names l.kind) (locals_clock names ls) c e) [
  | inl here ↦ (l, inl refl, here)
  | inr behind ↦ let later = locals_clocked names ls c behind in (later.0, inr later.1, later.2)
]

kind_clocked : (names : Names) (ports : List ℕ → List Bool) (body : List StmtTree) (name c : List ℕ) (k : LocalKind) → kind_clock names k ≡ Some c → IsIn c (kind_clocks ports body name k)
kind_clocked names ports body name c (Reg clock type) e = inl (sym (chosen (is_clock_port names (names clock.name)) clock.name c e).1)
kind_clocked names ports body name c (Var type) e = absurd (let f : None ≡ Some c = e in cc)
kind_clocked names ports body name c (Inst of) e = absurd (let f : None ≡ Some c = e in cc)

complete : (earlier : List ModuleTree) (m : ModuleTree) → AllClean (m ∷ earlier) → PortsAre earlier → (c : List ℕ) → clock_in (seen_behind earlier) m ≡ Some c → IsIn c (clocks_in (clock_ports earlier) m)
complete earlier m clean ports c e = elim (first_of (locals_clock (names_of m) m.locals) (body_clock (names_of m) (seen_behind earlier) m.body) c e) [
  | inl in_locals ↦
      let f = locals_clocked (names_of m) m.locals c in_locals in
      to_flat_map (λ (l : Local). kind_clocks (clock_ports earlier) m.body l.name l.kind) c f.0 m.locals f.1
      (kind_clocked (names_of m) (clock_ports earlier) m.body f.0.name c f.0.kind f.2)
  | inr in_body ↦
      let seen = seen_behind earlier in
      let f = body_call (names_of m) seen (clock_in seen m) m.body c (distinct_targets none_taken (body_targets (names_of m) seen m.body) clean.0.twice).0 clean.0.body in_body in
      let l = instance_local (names_of m f.0) f.2 in
      let there = local_found m f.0 l.0 l.1 in
      let passed : args_clock (names_of m) (args_of m.body l.0.name) (listed (kind_pins seen l.0.kind)) ≡ Some c =
      subst (λ (n : List ℕ). args_clock (names_of m) (args_of m.body n) (listed (kind_pins seen l.0.kind)) ≡ Some c) there.1
      (subst (λ (o : Option Entry). args_clock (names_of m) (args_of m.body f.0) (listed (instance_pins seen o)) ≡ Some c) l.1 f.3) in
      to_flat_map (λ (l : Local). kind_clocks (clock_ports earlier) m.body l.name l.kind) c l.0 m.locals there.0 (by_kind l.0.name l.0.kind passed)
]
  where
    by_kind : (name : List ℕ) (k : LocalKind) → args_clock (names_of m) (args_of m.body name) (listed (kind_pins (seen_behind earlier) k)) ≡ Some c → IsIn c (kind_clocks (clock_ports earlier) m.body name k)
    by_kind name (Reg clock type) passed = absurd (no_pins (names_of m) (args_of m.body name) c passed)
    by_kind name (Var type) passed = absurd (no_pins (names_of m) (args_of m.body name) c passed)
    by_kind name (Inst of) passed =
        subst (λ (bs : List Bool). IsIn c (passed_clocks bs (args_of m.body name))) (sym (ports of.name))
        (passed_complete (names_of m) (listed (seen_behind earlier of.name)) (args_of m.body name) c passed)

-- so a name is among the clocks where it is the clock
pub among_is_clock : (earlier : List ModuleTree) (m : ModuleTree) → IsClocked earlier m → (n : List ℕ) → is_among (clocks_in (clock_ports earlier) m) n ≡ is_clock (clock_in (seen_behind earlier) m) n
among_is_clock earlier m clocked n = elim (cases_Bool (is_among (clocks_in (clock_ports earlier) m) n)) [
  | inl listed_ ↦ listed_ ∙ sym (ap (λ (o : Option (List ℕ)). is_clock o n) ((clocked n).0 (is_in n (clocks_in (clock_ports earlier) m) listed_)) ∙ same_name n n refl)
  | inr absent ↦ absent ∙ elim (cases_Bool (is_clock (clock_in (seen_behind earlier) m) n)) [
    | inl is ↦ absurd (not_both (among n (clocks_in (clock_ports earlier) m) ((clocked n).1 (is_the_clock (clock_in (seen_behind earlier) m) n is))) absent)
    | inr other ↦ sym other
  ]
]

ports_same : (names : Names) (clocks : List (List ℕ)) (clock : Option (List ℕ)) → ((n : List ℕ) → is_among clocks n ≡ is_clock clock n) → (ports : List Port) →
    map (λ (p : Port). is_among clocks p.name) ports ≡ pin_clocks (pins_of names clock ports)
ports_same names clocks clock same [] = refl
ports_same names clocks clock same (p ∷ ports) = ap₂ (λ (b : Bool) (bs : List Bool). b ∷ bs) (same p.name) (ports_same names clocks clock same ports)

mutual
  pub are_clocked : (ms : List ModuleTree) → AllClean ms → AreClocked ms
  are_clocked [] clean = tt
  are_clocked (m ∷ earlier) clean = (
    λ c. (sound earlier m clean (ports_are earlier clean.1) c, complete earlier m clean (ports_are earlier clean.1) c),
    are_clocked earlier clean.1,
  )

  pub ports_are : (earlier : List ModuleTree) → AllClean earlier → (name : List ℕ) → clock_ports earlier name ≡ pin_clocks (listed (seen_behind earlier name))
  ports_are [] clean name = refl
  ports_are (m ∷ earlier) clean name = elim (cases_Bool (bytes_eq m.name name)) [
    | inl same ↦
        let clocked : IsClocked earlier m = λ c. (sound earlier m clean (ports_are earlier clean.1) c, complete earlier m clean (ports_are earlier clean.1) c) in
        cond-true (bytes_eq m.name name) (map (λ (p : Port). is_among (clocks_in (clock_ports earlier) m) p.name) m.ports) (clock_ports earlier name) same
        ∙ ports_same (names_of m) (clocks_in (clock_ports earlier) m) (clock_in (seen_behind earlier) m) (among_is_clock earlier m clocked) m.ports
        ∙ ap (λ (o : Option (List Pin)). pin_clocks (listed o)) (sym (seen_here m earlier name clean same))
    | inr other ↦
        cond-false (bytes_eq m.name name) (map (λ (p : Port). is_among (clocks_in (clock_ports earlier) m) p.name) m.ports) (clock_ports earlier name) other
        ∙ ports_are earlier clean.1 name ∙ ap (λ (o : Option (List Pin)). pin_clocks (listed o)) (sym (seen_further m earlier name other))
  ]
