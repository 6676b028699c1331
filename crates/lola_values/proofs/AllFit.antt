-- What the equations and updates of a well sized design give fits the signals that they set.
use Rattle.std.proofs.Common.{◌≡◌, reverse, Option, Some, None, refl, sym, subst, inl, inr}
use Rattle.std.specs.Prelude.{flat_map}
use Rattle.std.specs.List.{AllByRecursion}
use Rattle.lola_bits.specs.Lists.{IsIn}
use Rattle.lola_bits.proofs.Lists.{in_either, from_map, from_flat_map}
use Rattle.lola_bits.proofs.All.{of_all}
use Rattle.lola_tree.specs.Names.{names_of}
use Rattle.lola_tree.specs.Tree.{SourceTree}
use Rattle.lola_tree.specs.design.Places.{Caller, Place, places}
use Rattle.lola_tree.specs.design.Equations.{Equation, caller_equations, stmt_equations, place_equations, equations, Update, stmt_updates, place_updates, updates}
use Rattle.lola_tree.specs.design.Chains.{flat_equation}
use Rattle.lola_width.specs.Sized.{clock_in}
use Rattle.lola_design.specs.Drives.{PadsFit}
use Rattle.lola_design.specs.Regular.{ValuesFit}
use Rattle.lola_regular.specs.Clocked.{seen_behind, AreClocked}
use Rattle.lola_regular.specs.Written.{IsWrittenStmt, IsWrittenModule}
use Rattle.lola_regular.proofs.Clean.{AllClean}
use Rattle.lola_regular.proofs.PadsPassed.{stmt_free}
use Rattle.lola_values.proofs.Standing.{PlaceStands, all_stand}
use Rattle.lola_values.proofs.Known.{NumbersAll}
use Rattle.lola_values.proofs.Wide.{stmt_sized}
use Rattle.lola_values.proofs.Lefts.{PathsOnce, LeftFits}
use Rattle.lola_values.proofs.Entered.{arguments_of}
use Rattle.lola_values.proofs.PadWidths.{IsEqualBy, pads_stand}
use Rattle.lola_values.proofs.Arguments.{FlatFits, arguments_fit, arguments_equal}
use Rattle.lola_values.proofs.Statements.{UpdateFits, updates_fit, equations_fit}

module _ (numbers : NumbersAll) (S : SourceTree) (once : PathsOnce S) (clean : AllClean (reverse S.modules)) (written : AllByRecursion IsWrittenModule (reverse S.modules)) (clocked : AreClocked (reverse S.modules)) (pads : PadsFit S) where
  stands : (a : Place) → IsIn a (places S) → PlaceStands S a
  stands = all_stand S clean written clocked

  equal_by : (a : Place) (k : PlaceStands S a) (c : Option Caller) → a.caller ≡ c → IsEqualBy a c
  equal_by a k None is = tt
  equal_by a k (Some c) is = arguments_equal numbers S once a c (arguments_of S a k c is)

  caller_fits : (a : Place) (k : PlaceStands S a) (c : Option Caller) → a.caller ≡ c → (e : Equation) → IsIn e (caller_equations a c) → FlatFits S e
  caller_fits a k None is e there = absurd there
  caller_fits a k (Some c) is e there = arguments_fit numbers S once a c (arguments_of S a k c is) e there

  equation_fits : (e : Equation) → IsIn e (equations S) → FlatFits S e
  equation_fits e is =
      let f = from_flat_map place_equations e (places S) is in
      let a = f.0 in
      let k = stands a f.1 in
      let s = k.stands in
      let m = a.module_ in
      let seen = seen_behind s.earlier in
      elim (in_either e (caller_equations a a.caller) (flat_map (stmt_equations a) m.body) f.2) [
        | inl called ↦ caller_fits a k a.caller refl e called
        | inr said ↦
            let t = from_flat_map (stmt_equations a) e m.body said in
            equations_fit numbers S once a s (pads_stand S clean pads (λ b there. equal_by b (stands b there) b.caller refl) a f.1) t.0 (pads.drives a f.1 t.0 t.1) (of_all IsWrittenStmt t.0 m.body s.written t.1)
            (stmt_free (names_of m) seen (clock_in seen m) m.body s.clean.body t.0 t.1) (stmt_sized (names_of m) seen m.body s.clean.wide_body t.0 t.1) e t.2
      ]

  update_fits : (u : Update) → IsIn u (updates S) → UpdateFits S u
  update_fits u is =
      let f = from_flat_map place_updates u (places S) is in
      let a = f.0 in
      let s = (stands a f.1).stands in
      let m = a.module_ in
      let seen = seen_behind s.earlier in
      let t = from_flat_map (stmt_updates a) u m.body f.2 in
      updates_fit numbers S once a s t.0 (of_all IsWrittenStmt t.0 m.body s.written t.1)
      (stmt_free (names_of m) seen (clock_in seen m) m.body s.clean.body t.0 t.1) (stmt_sized (names_of m) seen m.body s.clean.wide_body t.0 t.1) u t.2

  pub all_fit : ValuesFit S
  all_fit = record {
    by_equation = λ e is. let f = from_map flat_equation e (equations S) is in subst (λ (d : Equation). LeftFits S d.left d.right) (sym f.2) (equation_fits f.0 f.1);
    by_update = update_fits;
  }
