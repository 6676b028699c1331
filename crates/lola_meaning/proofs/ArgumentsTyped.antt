-- The arguments of an instance of a well sized design have the widths of its ports, and its OUT ports those of what
-- they set.
use Rattle.std.proofs.Common.{◌≡◌, ℕ, Bool, true, false, cond, List, [], ◌∷◌, ◌++◌, Option, Some, refl, sym, ◌∙◌, ap, subst, inl, inr}
use Rattle.std.specs.List.{AllByRecursion}
use Rattle.std.proofs.lemmas.Bool.{cases_Bool, cond-false}
use Rattle.lola_bits.specs.Lists.{IsIn}
use Rattle.lola_bits.specs.Names.{is_among}
use Rattle.lola_bits.proofs.Lists.{both_none, in_either}
use Rattle.lola_tree.specs.declared.named.Ref.{Ref}
use Rattle.lola_tree.specs.declared.module.Way.{Way}
use Rattle.lola_tree.specs.declared.module.Way.TheVariants.{Inward, Outward, Both}
use Rattle.lola_tree.specs.declared.module.Port.{Port}
use Rattle.lola_tree.specs.Names.{names_of, ref_name}
use Rattle.lola_tree.specs.Tree.{Tree, number, whole, bit, slice, index, concat, negation, binary, choice, ActualTree, ModuleTree, SourceTree}
use Rattle.lola_tree.specs.Width.{scope_of, vector_width, width}
use Rattle.lola_tree.specs.design.Calls.{bare_path}
use Rattle.lola_tree.specs.design.Places.{Caller, Place}
use Rattle.lola_tree.specs.design.Signals.{Signal, signals}
use Rattle.lola_tree.specs.design.Equations.{expression, copied, Equation, way_equations, arg_equations}
use Rattle.lola_width.specs.declared.uses.Use.{Use}
use Rattle.lola_width.specs.declared.uses.Use.TheVariants as use_
use Rattle.lola_width.specs.Interface.{is_clock, pins_of}
use Rattle.lola_width.specs.Interface.{bare_name as bare_ref}
use Rattle.lola_width.specs.NameFaults.{use_faults, bare_faults, clock_faults, way_faults, args_faults}
use Rattle.lola_width.specs.WidthFaults.{differ, expr_widths, args_widths}
use Rattle.lola_regular.specs.Clocked.{seen_behind}
use Rattle.lola_regular.specs.Written.{IsOneName, IsWrittenTree, IsWrittenArgument}
use Rattle.lola_regular.proofs.Ways.{clock_inward}
use Rattle.lola_regular.proofs.Targets.{bare_is}
use Rattle.lola_values.proofs.Reading.{the_clock, no_name_clock, VectorRead}
use Rattle.lola_values.proofs.Known.{Known, NumbersAll}
use Rattle.lola_values.proofs.Wide.{port_known, pad_known}
use Rattle.lola_values.proofs.Agree.{same_widths}
use Rattle.lola_values.proofs.Lefts.{PathsOnce}
use Rattle.lola_values.proofs.Targets.{name_ref, receiver_read, pad_read, port_width, port_read}
use Rattle.lola_values.proofs.Sound.{IsSound, sound_known}
use Rattle.lola_values.proofs.Entered.{Arguments}
use Rattle.lola_meaning.specs.Typed.{HasWidth}
use Rattle.lola_meaning.proofs.Sizing.{LeftHas, FlatHas, sound_typed, left_width, left_known, copied_width}

-- a bare name is the whole of what it names
bare_whole : (e : Tree) (r : Ref) → bare_ref e ≡ Some r → e ≡ whole r
bare_whole (number n w at) r is = absurd (cc)
bare_whole (whole of) r is = let same : of ≡ r = cc in ap whole same
bare_whole (bit of place at) r is = absurd (cc)
bare_whole (slice of high low at) r is = absurd (cc)
bare_whole (index of place at) r is = absurd (cc)
bare_whole (concat parts at) r is = absurd (cc)
bare_whole (negation e at) r is = absurd (cc)
bare_whole (binary o a b at) r is = absurd (cc)
bare_whole (choice test first second at) r is = absurd (cc)

module _ (numbers : NumbersAll) (S : SourceTree) (once : PathsOnce S) (has : (x : Signal) → IsIn x (signals S) → HasWidth x.names x.type) (a : Place) (c : Caller) (k : Arguments S a c) where
  abbrev inner : ModuleTree
  inner = a.module_

  abbrev outer : ModuleTree
  outer = c.module_

  abbrev inner_clock : Option (List ℕ)
  inner_clock = the_clock S inner a.path a.clocks k.own

  abbrev outer_clock : Option (List ℕ)
  outer_clock = the_clock S outer c.path k.clocks k.caller

  -- a port but the clock with its argument
  module _ (r : Port) (there : IsIn r inner.ports) (free_port : r.way ≡ Inward → is_among a.clocks r.name ≡ false) (x : ActualTree) (written : IsWrittenTree x.value)
      (free : cond (is_clock inner_clock r.name) (clock_faults (names_of outer) outer_clock x (bare_ref x.value)) (way_faults (names_of outer) outer_clock r.way x) ≡ [])
      (sized : expr_widths (scope_of outer) x.value ≡ [])
      (equal : cond (is_clock inner_clock r.name) [] (differ x.at (vector_width (names_of inner) (Some r.shape)) (width (scope_of outer) x.value)) ≡ []) where
    abbrev port_wide : Option ℕ
    port_wide = vector_width (names_of inner) (Some r.shape)

    no_clock_port : is_clock inner_clock r.name ≡ false
    no_clock_port = elim (cases_Bool (is_clock inner_clock r.name)) [
      | inl is_one ↦ no_name_clock S inner a.path a.clocks k.own r.name (free_port (clock_inward (seen_behind k.own.earlier) inner k.own.clean r there is_one))
      | inr other ↦ other
    ]

    way_free : (w : Way) → r.way ≡ w → way_faults (names_of outer) outer_clock w x ≡ []
    way_free w way =
        subst (λ (w : Way). way_faults (names_of outer) outer_clock w x ≡ []) way
        (sym (cond-false (is_clock inner_clock r.name) (clock_faults (names_of outer) outer_clock x (bare_ref x.value)) (way_faults (names_of outer) outer_clock r.way x) no_clock_port) ∙ free)

    equal_widths : differ x.at port_wide (width (scope_of outer) x.value) ≡ []
    equal_widths = sym (cond-false (is_clock inner_clock r.name) [] (differ x.at port_wide (width (scope_of outer) x.value)) no_clock_port) ∙ equal

    wide : Known port_wide
    wide = port_known numbers (seen_behind k.own.earlier) inner k.own.clean r there

    read : VectorRead S inner a.path a.clocks k.own (name_ref r.name)
    read = port_read S inner a.path a.clocks k.own r there free_port

    named_wide : (scope_of inner).width (name_ref r.name) ≡ port_wide
    named_wide = port_width S inner a.path a.clocks k.own r there

    entered_width : (y : Signal) → IsIn y (signals S) → y.path ≡ a.path ++ r.name ∷ [] → vector_width y.names (Some y.type) ≡ Some wide.0
    entered_width y y_there same = left_width S inner a.path a.clocks k.own once (name_ref r.name) read y y_there same ∙ named_wide ∙ wide.2

    inward_has : r.way ≡ Inward → LeftHas S (a.path ++ r.name ∷ []) (expression outer c.path x.value)
    inward_has way y y_there same =
        let good : IsSound S outer c.path k.clocks k.caller x.value = record { written = written; free = way_free Inward way; sized = sized } in
        let e = same_widths x.at port_wide (width (scope_of outer) x.value) equal_widths wide (sound_known numbers S outer c.path k.clocks k.caller x.value good) in
        (wide.0, entered_width y y_there same, (sound_typed S outer c.path k.clocks k.caller x.value good, sym e ∙ wide.2))

    -- a bare name as an argument
    module _ (used : Use) (bare : bare_faults (names_of outer) outer_clock used x (bare_ref x.value) ≡ []) where
      abbrev of : Ref
      of = (bare_is (names_of outer) outer_clock used x (bare_ref x.value) bare).0

      of_used : use_faults used of.at (ref_name of) (names_of outer (ref_name of)) ≡ []
      of_used = (bare_is (names_of outer) outer_clock used x (bare_ref x.value) bare).2

      is_whole : x.value ≡ whole of
      is_whole = bare_whole x.value of (bare_is (names_of outer) outer_clock used x (bare_ref x.value) bare).1

      of_one : IsOneName of
      of_one = subst IsWrittenTree is_whole written

      of_path : c.path ++ bare_path x.value ≡ c.path ++ of.path
      of_path = ap (λ (e : Tree). c.path ++ bare_path e) is_whole

      of_equal : differ x.at port_wide ((scope_of outer).width of) ≡ []
      of_equal = subst (λ (e : Tree). differ x.at port_wide (width (scope_of outer) e) ≡ []) is_whole equal_widths

    outward_has : r.way ≡ Outward → LeftHas S (c.path ++ bare_path x.value) (copied (a.path ++ r.name ∷ []))
    outward_has way y y_there same =
        let bare = way_free Outward way in
        let r_of = of use_.Receiver bare in
        let target = receiver_read S outer c.path k.clocks k.caller r_of (of_one use_.Receiver bare) r_of.at (of_used use_.Receiver bare) in
        let here = left_width S outer c.path k.clocks k.caller once r_of target y y_there (same ∙ of_path use_.Receiver bare) in
        let known : Known ((scope_of outer).width r_of) = subst Known here (left_known S outer c.path k.clocks k.caller once r_of has target y y_there (same ∙ of_path use_.Receiver bare)) in
        let e = same_widths x.at port_wide ((scope_of outer).width r_of) (of_equal use_.Receiver bare) wide known in
        (wide.0, here ∙ sym e ∙ wide.2, copied_width S inner a.path a.clocks k.own (name_ref r.name) read (a.path ++ r.name ∷ []) refl wide.0 (named_wide ∙ wide.2))

    both_has : r.way ≡ Both → LeftHas S (a.path ++ r.name ∷ []) (copied (c.path ++ bare_path x.value))
    both_has way y y_there same =
        let bare = way_free Both way in
        let r_of = of use_.Pad bare in
        let passed = pad_read S outer c.path k.clocks k.caller r_of (of_one use_.Pad bare) r_of.at (of_used use_.Pad bare) in
        let known = pad_known numbers (seen_behind k.caller.earlier) outer k.caller.clean r_of.at (ref_name r_of) (of_used use_.Pad bare) in
        let e = same_widths x.at port_wide ((scope_of outer).width r_of) (of_equal use_.Pad bare) wide known in
        (wide.0, entered_width y y_there same, copied_width S outer c.path k.clocks k.caller r_of passed (c.path ++ bare_path x.value) (of_path use_.Pad bare) wide.0 (sym e ∙ wide.2))

  not_inward : (w v : Way) → w ≡ v → (v ≡ Inward → ⊥) → {T : Type 0} → w ≡ Inward → T
  not_inward w v same other inward = absurd (other (sym same ∙ inward))

  way_has : (r : Port) → IsIn r inner.ports → (x : ActualTree) → IsWrittenTree x.value →
      cond (is_clock inner_clock r.name) (clock_faults (names_of outer) outer_clock x (bare_ref x.value)) (way_faults (names_of outer) outer_clock r.way x) ≡ [] → expr_widths (scope_of outer) x.value ≡ [] →
      cond (is_clock inner_clock r.name) [] (differ x.at (vector_width (names_of inner) (Some r.shape)) (width (scope_of outer) x.value)) ≡ [] →
      (w : Way) → r.way ≡ w → (b : Bool) → is_among a.clocks r.name ≡ b → (e : Equation) → IsIn e (way_equations w b (a.path ++ r.name ∷ []) outer c.path x.value) → FlatHas S e
  way_has r there x written free sized equal Inward way true among e is = absurd is
  way_has r there x written free sized equal Inward way false among e (inl same) = subst (FlatHas S) (sym same) (inward_has r there (λ inward. among) x written free sized equal way)
  way_has r there x written free sized equal Inward way false among e (inr none) = absurd none
  way_has r there x written free sized equal Outward way b among e (inl same) = subst (FlatHas S) (sym same) (outward_has r there (not_inward r.way Outward way (λ f. cc)) x written free sized equal way)
  way_has r there x written free sized equal Outward way b among e (inr none) = absurd none
  way_has r there x written free sized equal Both way b among e (inl same) = subst (FlatHas S) (sym same) (both_has r there (not_inward r.way Both way (λ f. cc)) x written free sized equal way)
  way_has r there x written free sized equal Both way b among e (inr none) = absurd none

  args_have : (ports : List Port) → ((r : Port) → IsIn r ports → IsIn r inner.ports) → (args : List ActualTree) → AllByRecursion IsWrittenArgument args →
      args_faults (names_of outer) outer_clock args (pins_of (names_of inner) inner_clock ports) ≡ [] → args_widths (scope_of outer) args (pins_of (names_of inner) inner_clock ports) ≡ [] →
      (e : Equation) → IsIn e (arg_equations a.clocks a.path outer c.path ports args) → FlatHas S e
  args_have [] sub args written free sized e is = absurd is
  args_have (r ∷ ports) sub [] written free sized e is = absurd is
  args_have (r ∷ ports) sub (x ∷ args) written free sized e is =
      let pins = pins_of (names_of inner) inner_clock ports in
      let f = both_none (cond (is_clock inner_clock r.name) (clock_faults (names_of outer) outer_clock x (bare_ref x.value)) (way_faults (names_of outer) outer_clock r.way x)) (args_faults (names_of outer) outer_clock args pins) free in
      let w = both_none (expr_widths (scope_of outer) x.value) _ sized in
      let d = both_none (cond (is_clock inner_clock r.name) [] (differ x.at (vector_width (names_of inner) (Some r.shape)) (width (scope_of outer) x.value))) (args_widths (scope_of outer) args pins) w.1 in
      elim (in_either e (way_equations r.way (is_among a.clocks r.name) (a.path ++ r.name ∷ []) outer c.path x.value) (arg_equations a.clocks a.path outer c.path ports args) is) [
        | inl here ↦ way_has r (sub r (inl refl)) x written.0 f.0 w.0 d.0 r.way refl (is_among a.clocks r.name) refl e here
        | inr later ↦ args_have ports (λ t there. sub t (inr there)) args written.1 f.1 d.1 e later
      ]

  pub arguments_have : (e : Equation) → IsIn e (arg_equations a.clocks a.path outer c.path inner.ports c.args) → FlatHas S e
  arguments_have = args_have inner.ports (λ r there. there) c.args k.written k.free k.sized
