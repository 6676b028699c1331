-- A well sized design has the types that the laws of meaning ask.
use Rattle.std.proofs.Common.{◌≡◌, ◌≢◌, ℕ, reverse, Option, Some, None, refl, sym, ◌∙◌, ap, subst, ◌⊎◌, inl, inr}
use Rattle.std.specs.Prelude.{flat_map}
use Rattle.std.specs.List.{AllByRecursion}
use Rattle.lola_bits.specs.Lists.{IsIn}
use Rattle.lola_bits.proofs.Lists.{in_either, from_map, to_map, from_flat_map}
use Rattle.lola_bits.proofs.All.{of_all}
use Rattle.lola_tree.specs.Names.{names_of}
use Rattle.lola_tree.specs.Tree.{SourceTree}
use Rattle.lola_tree.specs.Value.{Values}
use Rattle.lola_tree.specs.design.Places.{Caller, Place, places}
use Rattle.lola_tree.specs.design.Signals.{Kind, clock, input, pad, wire, register, Signal, signals, signal_paths}
use Rattle.lola_tree.specs.design.Equations.{Right, expression, copied, driven, Equation, caller_equations, stmt_equations, place_equations, equations, Update, stmt_updates, place_updates, updates}
use Rattle.lola_tree.specs.design.Chains.{flat_left, flat_equation, flat_equations}
use Rattle.lola_width.specs.Sized.{clock_in}
use Rattle.lola_design.specs.Regular.{IsRegular}
use Rattle.lola_design.proofs.Graphs.{numbered}
use Rattle.lola_design.proofs.Derived.{fixed, are_equations, equation_wires}
use Rattle.lola_regular.specs.Clocked.{seen_behind, AreClocked}
use Rattle.lola_regular.specs.Written.{IsWrittenStmt, IsWrittenModule}
use Rattle.lola_regular.proofs.Clean.{AllClean}
use Rattle.lola_regular.proofs.PadsPassed.{stmt_free}
use Rattle.lola_values.proofs.Standing.{PlaceStands, all_stand}
use Rattle.lola_values.proofs.Known.{NumbersAll}
use Rattle.lola_values.proofs.Wide.{stmt_sized}
use Rattle.lola_values.proofs.Lefts.{PathsOnce, the_signal}
use Rattle.lola_values.proofs.Entered.{arguments_of}
use Rattle.lola_values.proofs.Arguments.{arguments_equal}
use Rattle.lola_values.proofs.PadWidths.{IsEqualBy, pads_stand}
use Rattle.lola_meaning.specs.Typed.{HasWidth, RightHasWidth, DrivesKind, AreTyped}
use Rattle.lola_meaning.proofs.Widths.{signals_have}
use Rattle.lola_meaning.proofs.KindTests.{no_pad, wired_no_register}
use Rattle.lola_meaning.proofs.PadsDriven.{IsDriven, pad_driven}
use Rattle.lola_meaning.proofs.Sizing.{LeftHas, FlatHas}
use Rattle.lola_meaning.proofs.ArgumentsTyped.{arguments_have}
use Rattle.lola_meaning.proofs.StatementsTyped.{SetsBy, updates_set, equations_have}

module _ (numbers : NumbersAll) (S : SourceTree) (is_regular : IsRegular S) (once : PathsOnce S) (clean : AllClean (reverse S.modules)) (written : AllByRecursion IsWrittenModule (reverse S.modules)) (clocked : AreClocked (reverse S.modules)) where
  -- any values will do
  abbrev zero : Values
  zero = λ x n. 0

  has : (x : Signal) → IsIn x (signals S) → HasWidth x.names x.type
  has = signals_have numbers S clean

  stands : (a : Place) → IsIn a (places S) → PlaceStands S a
  stands = all_stand S clean written clocked

  equal_by : (a : Place) (k : PlaceStands S a) (c : Option Caller) → a.caller ≡ c → IsEqualBy a c
  equal_by a k None is = tt
  equal_by a k (Some c) is = arguments_equal numbers S once a c (arguments_of S a k c is)

  caller_has : (a : Place) (k : PlaceStands S a) (c : Option Caller) → a.caller ≡ c → (e : Equation) → IsIn e (caller_equations a c) → FlatHas S e
  caller_has a k None is e there = absurd there
  caller_has a k (Some c) is e there = arguments_have numbers S once has a c (arguments_of S a k c is) e there

  -- what has an equation is no register
  wired : (e : Equation) → IsIn e (equations S) → (y : Signal) → IsIn y (signals S) → y.path ≡ flat_left e.left e.right → y.kind ≢ register
  wired e said y there same = wired_no_register y.kind (equation_wires S is_regular zero zero (flat_equation e) (to_map flat_equation e (equations S) said) y there same)

  equation_has : (e : Equation) → IsIn e (equations S) → FlatHas S e
  equation_has e is =
      let f = from_flat_map place_equations e (places S) is in
      let a = f.0 in
      let k = stands a f.1 in
      let s = k.stands in
      let m = a.module_ in
      let seen = seen_behind s.earlier in
      elim (in_either e (caller_equations a a.caller) (flat_map (stmt_equations a) m.body) f.2) [
        | inl called ↦ caller_has a k a.caller refl e called
        | inr said ↦
            let t = from_flat_map (stmt_equations a) e m.body said in
            equations_have numbers S once has a s (pads_stand S clean is_regular.pads (λ b there. equal_by b (stands b there) b.caller refl) a f.1) t.0 (is_regular.pads.drives a f.1 t.0 t.1) (of_all IsWrittenStmt t.0 m.body s.written t.1)
            (stmt_free (names_of m) seen (clock_in seen m) m.body s.clean.body t.0 t.1) (stmt_sized (names_of m) seen m.body s.clean.wide_body t.0 t.1) e t.2 (wired e is)
      ]

  flat_has : (e : Equation) → IsIn e (flat_equations S) → LeftHas S e.left e.right
  flat_has e is = let f = from_map flat_equation e (equations S) is in subst (λ (d : Equation). LeftHas S d.left d.right) (sym f.2) (equation_has f.0 f.1)

  update_sets : (u : Update) → IsIn u (updates S) → SetsBy S u
  update_sets u is =
      let f = from_flat_map place_updates u (places S) is in
      let a = f.0 in
      let s = (stands a f.1).stands in
      let m = a.module_ in
      let seen = seen_behind s.earlier in
      let t = from_flat_map (stmt_updates a) u m.body f.2 in
      updates_set numbers S once has a s t.0 (of_all IsWrittenStmt t.0 m.body s.written t.1)
      (stmt_free (names_of m) seen (clock_in seen m) m.body s.clean.body t.0 t.1) (stmt_sized (names_of m) seen m.body s.clean.wide_body t.0 t.1) u t.2

  -- pads alone are driven
  driven_pad : (r : Right) → IsDriven r → DrivesKind pad r
  driven_pad (expression m p e) is = absurd is
  driven_pad (copied other) is = absurd is
  driven_pad (driven m p drive release io) is = tt

  pad_drives : (e : Equation) → IsIn e (flat_equations S) → (x : Signal) → IsIn x (signals S) → x.path ≡ e.left → x.kind ≡ pad → DrivesKind pad e.right
  pad_drives e said x there same kind =
      let d = pad_driven S is_regular.assigned x (there, kind) in
      let one : d.0.right ≡ e.right = (numbered (flat_equations S) (fixed S is_regular zero zero) (signal_paths S) (are_equations S is_regular zero zero)).once d.0 e d.1 said (d.2 ∙ same) in
      subst (DrivesKind pad) one (driven_pad d.0.right d.3)

  own_left : (e : Equation) → IsIn e (flat_equations S) → (w : ℕ) (r : Right) → e.right ≡ r → RightHasWidth S w r → IsDriven r → (x : Signal) → IsIn x (signals S) → x.path ≡ e.left → x.kind ≡ pad
  own_left e said w (expression m p f) right wide is x there same = absurd is
  own_left e said w (copied other) right wide is x there same = absurd is
  own_left e said w (driven m p drive release io) right wide is x there same =
      let f = from_map flat_equation e (equations S) said in
      let left : e.left ≡ io = ap (λ (d : Equation). d.left) f.2 ∙ ap (flat_left f.0.left) (sym (ap (λ (d : Equation). d.right) f.2) ∙ right) in
      ap (λ (k : Signal). k.kind) (the_signal S once io x wide.0.signal there wide.0.there.0 (same ∙ left) wide.0.path_is) ∙ wide.0.there.1

  other_drives : (k : Kind) → (k ≡ pad → ⊥) → (r : Right) → (IsDriven r → ⊥) → DrivesKind k r
  other_drives pad other r apart = absurd (other refl)
  other_drives clock other (expression m p e) apart = tt
  other_drives clock other (copied from) apart = tt
  other_drives clock other (driven m p drive release io) apart = absurd (apart tt)
  other_drives input other (expression m p e) apart = tt
  other_drives input other (copied from) apart = tt
  other_drives input other (driven m p drive release io) apart = absurd (apart tt)
  other_drives wire other (expression m p e) apart = tt
  other_drives wire other (copied from) apart = tt
  other_drives wire other (driven m p drive release io) apart = absurd (apart tt)
  other_drives register other (expression m p e) apart = tt
  other_drives register other (copied from) apart = tt
  other_drives register other (driven m p drive release io) apart = absurd (apart tt)

  is_pad : (k : Kind) → (k ≡ pad) ⊎ (k ≢ pad)
  is_pad pad = inl refl
  is_pad clock = inr (no_pad clock (λ none. none))
  is_pad input = inr (no_pad input (λ none. none))
  is_pad wire = inr (no_pad wire (λ none. none))
  is_pad register = inr (no_pad register (λ none. none))

  drives : (e : Equation) → IsIn e (flat_equations S) → (x : Signal) → IsIn x (signals S) → x.path ≡ e.left → (w : ℕ) → RightHasWidth S w e.right → DrivesKind x.kind e.right
  drives e said x there same w wide = elim (is_pad x.kind) [
    | inl kind ↦ subst (λ (k : Kind). DrivesKind k e.right) (sym kind) (pad_drives e said x there same kind)
    | inr other ↦ other_drives x.kind other e.right (λ is. other (own_left e said w e.right refl wide is x there same))
  ]

  pub are_typed : AreTyped S
  are_typed = record {
    signals_have = has;
    equations_have = λ e said x there same. let k = flat_has e said x there same in (k.0, k.1, k.2, drives e said x there same k.0 k.2);
    updates_have = update_sets;
  }
