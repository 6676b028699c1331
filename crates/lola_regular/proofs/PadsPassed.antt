-- Pads are passed on and driven as such.
use Rattle.std.proofs.Common.{◌≡◌, ℕ, Bool, true, false, cond, List, [], ◌∷◌, reverse, Option, Some, None, refl, sym, ◌∙◌, ap, subst, inl, inr}
use Rattle.std.specs.List.{AllByRecursion}
use Rattle.lola_bits.specs.Lists.{IsIn}
use Rattle.lola_bits.proofs.Lists.{both_none}
use Rattle.lola_tree.specs.declared.module.Way.{Way}
use Rattle.lola_tree.specs.declared.module.Way.TheVariants.{Inward, Outward, Both}
use Rattle.lola_tree.specs.declared.module.Port.{Port}
use Rattle.lola_tree.specs.declared.module.LocalKind.{LocalKind}
use Rattle.lola_tree.specs.Tree.{ActualTree, StmtTree, assignment, call, pad, ModuleTree, SourceTree}
use Rattle.lola_tree.specs.Names.{Names, names_of, ref_name}
use Rattle.lola_tree.specs.Signals.{is_inward}
use Rattle.lola_tree.specs.design.Places.{Pads, Caller, Place}
use Rattle.lola_tree.specs.design.Calls.{bare_name, args_of}
use Rattle.lola_width.specs.declared.uses.Use.TheVariants as use_
use Rattle.lola_width.specs.declared.interface.Pin.{Pin}
use Rattle.lola_width.specs.Interface.{Seen, kind_pins, listed, is_clock, pins_of}
use Rattle.lola_width.specs.Interface.{bare_name as bare_ref}
use Rattle.lola_width.specs.NameFaults.{use_faults, clock_faults, way_faults, args_faults, stmt_faults, body_faults}
use Rattle.lola_width.specs.Sized.{clock_in, pins_in}
use Rattle.lola_design.specs.Drives.{pad_names, ArePassed, IsPassedBy, DrivesPad, PadsFit}
use Rattle.lola_design.specs.Assigned.{both_names}
use Rattle.lola_regular.specs.Clocked.{seen_behind}
use Rattle.lola_regular.specs.Written.{IsWrittenModule}
use Rattle.lola_regular.proofs.Clean.{AllClean}
use Rattle.lola_regular.proofs.Ways.{GoodPins, pins_good}
use Rattle.lola_regular.proofs.Targets.{pad_entry, pad_is, bare_is}
use Rattle.lola_regular.proofs.Assigned.{pad_where}
use Rattle.lola_regular.proofs.Inside.{AreBare, local_bare, boths_declared}
use Rattle.lola_regular.proofs.Clocks.{bare_ref_name, local_args}
use Rattle.lola_regular.proofs.Standing.{IsReached, Stands, all_stand}

-- what is a pad by its name is an INOUT port
pub pad_port : (m : ModuleTree) (n : List ℕ) → pad_entry (names_of m n) ≡ true → IsIn n (both_names m.ports)
pad_port m n is = subst (λ (ns : List (List ℕ)). IsIn n ns) (sym (boths_declared m.ports)) (pad_where m n (names_of m n) refl is)

one_passed : (names : Names) (clock : Option (List ℕ)) (k : Bool) (v : Way) (a : ActualTree) (ns : List (List ℕ)) → ((n : List ℕ) → pad_entry (names n) ≡ true → IsIn n ns) → (k ≡ true → v ≡ Inward) →
    cond k (clock_faults names clock a (bare_ref a.value)) (way_faults names clock v a) ≡ [] → v ≡ Both → IsIn (bare_name a.value) ns
one_passed names clock k Inward a ns each good none both = absurd (cc)
one_passed names clock k Outward a ns each good none both = absurd (cc)
one_passed names clock true Both a ns each good none both = absurd (let e = good refl in cc)
one_passed names clock false Both a ns each good none both =
    let r = bare_is names clock use_.Pad a (bare_ref a.value) none in
    subst (λ (n : List ℕ). IsIn n ns) (sym (bare_ref_name a.value r.0 r.1)) (each (ref_name r.0) (pad_is r.0.at (ref_name r.0) (names (ref_name r.0)) r.2))

both_outward : (v : Way) → v ≡ Both → is_inward v ≡ false
both_outward v both = ap is_inward both

args_passed : (names : Names) (clock : Option (List ℕ)) (pads : Pads) → ((n : List ℕ) → pad_entry (names n) ≡ true → IsIn n (pad_names pads)) → (inner : Names) (under : Option (List ℕ)) (ports : List Port) (args : List ActualTree) →
    GoodPins (pins_of inner under ports) → AreBare (pins_of inner under ports) args → args_faults names clock args (pins_of inner under ports) ≡ [] → ArePassed pads ports args
args_passed names clock pads each inner under [] args good bare none = tt
args_passed names clock pads each inner under (p ∷ ports) [] good bare none = tt
args_passed names clock pads each inner under (p ∷ ports) (a ∷ args) good bare none =
    let pins = pins_of inner under (p ∷ ports) in
    let k = is_clock under p.name in
    let two = both_none (cond k (clock_faults names clock a (bare_ref a.value)) (way_faults names clock p.way a)) (args_faults names clock args (pins_of inner under ports)) none in (
      λ both. (bare.0 (both_outward p.way both), one_passed names clock k p.way a (pad_names pads) each good.0 two.0 both),
      args_passed names clock pads each inner under ports args good.1 bare.1 two.1,
    )

passed_by : (a : Place) (s : Stands a) (o : Option Caller) → IsReached a s.earlier o → IsPassedBy a o
passed_by a s None top = tt
passed_by a s (Some c) entered =
    let calls = entered.calls in
    let seen = seen_behind calls.earlier in
    let pins = pins_in (seen_behind s.earlier) a.module_ in
    let kind : listed (kind_pins seen calls.local.kind) ≡ pins = ap (λ (k : LocalKind). listed (kind_pins seen k)) calls.kind ∙ ap listed entered.seen in
    let args = c.args in
    let bare : AreBare pins args =
    subst (λ (l : List ActualTree). AreBare pins l) (sym calls.args)
    (subst (λ (l : List Pin). AreBare l (args_of c.module_.body calls.local.name)) kind (local_bare calls.earlier c.module_ calls.clean calls.written.0 calls.local calls.declared)) in
    let free : args_faults (names_of c.module_) (clock_in seen c.module_) args pins ≡ [] =
    subst (λ (l : List ActualTree). args_faults (names_of c.module_) (clock_in seen c.module_) l pins ≡ []) (sym calls.args)
    (subst (λ (l : List Pin). args_faults (names_of c.module_) (clock_in seen c.module_) (args_of c.module_.body calls.local.name) l ≡ []) kind (local_args calls.earlier c.module_ calls.clean calls.local calls.declared)) in
    args_passed (names_of c.module_) (clock_in seen c.module_) c.pads (λ n is. subst (λ (ns : List (List ℕ)). IsIn n ns) (sym calls.pads) (pad_port c.module_ n is))
    (names_of a.module_) (clock_in (seen_behind s.earlier) a.module_) a.module_.ports args (pins_good (seen_behind s.earlier) a.module_ s.clean.0) bare free

-- the faults of a statement
pub stmt_free : (names : Names) (seen : Seen) (clock : Option (List ℕ)) (body : List StmtTree) → body_faults names seen clock body ≡ [] → (t : StmtTree) → IsIn t body → stmt_faults names seen clock t ≡ []
stmt_free names seen clock [] none t is = absurd is
stmt_free names seen clock (u ∷ body) none t (inl same) = subst (λ (x : StmtTree). stmt_faults names seen clock x ≡ []) (sym same) (both_none (stmt_faults names seen clock u) (body_faults names seen clock body) none).0
stmt_free names seen clock (u ∷ body) none t (inr later) = stmt_free names seen clock body (both_none (stmt_faults names seen clock u) (body_faults names seen clock body) none).1 t later

drives_pad : (m : ModuleTree) (seen : Seen) (clock : Option (List ℕ)) (pads : Pads) → pad_names pads ≡ both_names m.ports → (t : StmtTree) → stmt_faults (names_of m) seen clock t ≡ [] → DrivesPad pads t
drives_pad m seen clock pads named (assignment name place e at equals) none = tt
drives_pad m seen clock pads named (call name args at) none = tt
drives_pad m seen clock pads named (pad io inner drive release at) none =
    let one = both_none (use_faults use_.Pad io.at io.name (names_of m io.name)) _ none in
    subst (λ (ns : List (List ℕ)). IsIn io.name ns) (sym named) (pad_port m io.name (pad_is io.at io.name (names_of m io.name) one.0))

pub pads_fit : (S : SourceTree) → AllClean (reverse S.modules) → AllByRecursion IsWrittenModule (reverse S.modules) → PadsFit S
pads_fit S clean written = record {
  passed = λ a is. let s = all_stand S clean written a is in passed_by a s a.caller s.reached;
  drives = λ a is t there.
      let s = all_stand S clean written a is in
      let seen = seen_behind s.earlier in
      let clock = clock_in seen a.module_ in
      drives_pad a.module_ seen clock a.pads s.pads t (stmt_free (names_of a.module_) seen clock a.module_.body s.clean.0.body t there);
}
