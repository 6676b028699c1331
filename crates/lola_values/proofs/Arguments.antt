-- The arguments of an instance of a well sized design fit its ports, and its OUT ports what they set.
use Rattle.std.proofs.Common.{◌≡◌, ℕ, Bool, true, false, cond, List, [], ◌∷◌, ◌++◌, Option, Some, refl, sym, ◌∙◌, ap, subst, inl, inr}
use Rattle.std.specs.List.{AllByRecursion}
use Rattle.std.proofs.lemmas.Bool.{cases_Bool, cond-false}
use Rattle.lola_bits.specs.Lists.{IsIn}
use Rattle.lola_bits.specs.Names.{is_among}
use Rattle.lola_bits.proofs.Lists.{both_none, in_either}
use Rattle.lola_tree.specs.declared.named.Ref.{Ref}
use Rattle.lola_tree.specs.declared.module.Way.{Way}
use Rattle.lola_tree.specs.declared.module.Way.TheVariants.{Inward, Outward, Both}
use Rattle.lola_tree.specs.declared.module.Port.{Port}
use Rattle.lola_tree.specs.Names.{names_of, ref_name}
use Rattle.lola_tree.specs.Tree.{Tree, number, whole, bit, slice, index, concat, negation, binary, choice, ActualTree, ModuleTree, SourceTree}
use Rattle.lola_tree.specs.Width.{scope_of, vector_width, width}
use Rattle.lola_tree.specs.Value.{value}
use Rattle.lola_tree.specs.Cycle.{names_at, FitsIn}
use Rattle.lola_tree.specs.design.Calls.{bare_path, bare_name}
use Rattle.lola_tree.specs.design.Places.{Caller, Place}
use Rattle.lola_tree.specs.design.Equations.{expression, copied, Equation, way_equations, arg_equations}
use Rattle.lola_tree.specs.design.Chains.{flat_left}
use Rattle.lola_width.specs.declared.uses.Use.{Use}
use Rattle.lola_width.specs.declared.uses.Use.TheVariants as use_
use Rattle.lola_width.specs.Interface.{is_clock, pins_of}
use Rattle.lola_width.specs.Interface.{bare_name as bare_ref}
use Rattle.lola_width.specs.NameFaults.{use_faults, bare_faults, clock_faults, way_faults, args_faults}
use Rattle.lola_width.specs.WidthFaults.{differ, name_width, expr_widths, args_widths}
use Rattle.lola_regular.specs.Clocked.{seen_behind}
use Rattle.lola_regular.specs.Written.{IsOneName, IsWrittenTree, IsWrittenArgument}
use Rattle.lola_regular.proofs.Ways.{clock_inward}
use Rattle.lola_regular.proofs.Targets.{bare_is}
use Rattle.lola_values.proofs.Reading.{the_clock, no_name_clock, VectorRead}
use Rattle.lola_values.proofs.Known.{Known, NumbersAll}
use Rattle.lola_values.proofs.Wide.{port_known, pad_known}
use Rattle.lola_values.proofs.Agree.{fits_left, fits_right, same_widths}
use Rattle.lola_values.proofs.Lefts.{PathsOnce, LeftFits, vector_left, copied_fits}
use Rattle.lola_values.proofs.Targets.{name_ref, receiver_read, pad_read, port_width, port_read}
use Rattle.lola_values.proofs.Sound.{IsSound, sound_known, sound_fits, sound_within}
use Rattle.lola_values.proofs.Entered.{Arguments}
use Rattle.lola_values.proofs.PadWidths.{AreEqual}

-- a bare name is the whole of what it names
bare_whole : (e : Tree) (r : Ref) → bare_ref e ≡ Some r → e ≡ whole r
bare_whole (number n w at) r is = absurd (cc)
bare_whole (whole of) r is = let same : of ≡ r = cc in ap whole same
bare_whole (bit of place at) r is = absurd (cc)
bare_whole (slice of high low at) r is = absurd (cc)
bare_whole (index of place at) r is = absurd (cc)
bare_whole (concat parts at) r is = absurd (cc)
bare_whole (negation e at) r is = absurd (cc)
bare_whole (binary o a b at) r is = absurd (cc)
bare_whole (choice test first second at) r is = absurd (cc)

-- an equation by its flat left side
abbrev pub FlatFits : SourceTree → Equation → Type 0
FlatFits S e = LeftFits S (flat_left e.left e.right) e.right

module _ (numbers : NumbersAll) (S : SourceTree) (once : PathsOnce S) (a : Place) (c : Caller) (k : Arguments S a c) where
  abbrev inner : ModuleTree
  inner = a.module_

  abbrev outer : ModuleTree
  outer = c.module_

  abbrev inner_clock : Option (List ℕ)
  inner_clock = the_clock S inner a.path a.clocks k.own

  abbrev outer_clock : Option (List ℕ)
  outer_clock = the_clock S outer c.path k.clocks k.caller

  -- an argument for a port
  record IsArgument (r : Port) (x : ActualTree) : Type 0 where
    there : IsIn r inner.ports
    written : IsWrittenTree x.value
    free : cond (is_clock inner_clock r.name) (clock_faults (names_of outer) outer_clock x (bare_ref x.value)) (way_faults (names_of outer) outer_clock r.way x) ≡ []
    sized : expr_widths (scope_of outer) x.value ≡ []
    equal : cond (is_clock inner_clock r.name) [] (differ x.at (vector_width (names_of inner) (Some r.shape)) (width (scope_of outer) x.value)) ≡ []

  abbrev AllArguments : List Port → List ActualTree → Type 0
  AllArguments [] args = Unit {0}
  AllArguments (r ∷ ports) [] = Unit {0}
  AllArguments (r ∷ ports) (x ∷ args) = IsArgument r x × AllArguments ports args

  all_arguments : (ports : List Port) → ((r : Port) → IsIn r ports → IsIn r inner.ports) → (args : List ActualTree) → AllByRecursion IsWrittenArgument args →
      args_faults (names_of outer) outer_clock args (pins_of (names_of inner) inner_clock ports) ≡ [] → args_widths (scope_of outer) args (pins_of (names_of inner) inner_clock ports) ≡ [] → AllArguments ports args
  all_arguments [] sub args written free sized = tt
  all_arguments (r ∷ ports) sub [] written free sized = tt
  all_arguments (r ∷ ports) sub (x ∷ args) written free sized =
      let pins = pins_of (names_of inner) inner_clock ports in
      let f = both_none (cond (is_clock inner_clock r.name) (clock_faults (names_of outer) outer_clock x (bare_ref x.value)) (way_faults (names_of outer) outer_clock r.way x)) (args_faults (names_of outer) outer_clock args pins) free in
      let w = both_none (expr_widths (scope_of outer) x.value) _ sized in
      let d = both_none (cond (is_clock inner_clock r.name) [] (differ x.at (vector_width (names_of inner) (Some r.shape)) (width (scope_of outer) x.value))) (args_widths (scope_of outer) args pins) w.1 in
      (record { there = sub r (inl refl); written = written.0; free = f.0; sized = w.0; equal = d.0 }, all_arguments ports (λ t is. sub t (inr is)) args written.1 f.1 d.1)

  module _ (r : Port) (x : ActualTree) (i : IsArgument r x) (free_port : r.way ≡ Inward → is_among a.clocks r.name ≡ false) where
    abbrev port_wide : Option ℕ
    port_wide = vector_width (names_of inner) (Some r.shape)

    no_clock_port : is_clock inner_clock r.name ≡ false
    no_clock_port = elim (cases_Bool (is_clock inner_clock r.name)) [
      | inl is_one ↦ no_name_clock S inner a.path a.clocks k.own r.name (free_port (clock_inward (seen_behind k.own.earlier) inner k.own.clean r i.there is_one))
      | inr other ↦ other
    ]

    way_free : way_faults (names_of outer) outer_clock r.way x ≡ []
    way_free = sym (cond-false (is_clock inner_clock r.name) (clock_faults (names_of outer) outer_clock x (bare_ref x.value)) (way_faults (names_of outer) outer_clock r.way x) no_clock_port) ∙ i.free

    equal_widths : differ x.at port_wide (width (scope_of outer) x.value) ≡ []
    equal_widths = sym (cond-false (is_clock inner_clock r.name) [] (differ x.at port_wide (width (scope_of outer) x.value)) no_clock_port) ∙ i.equal

    wide : Known port_wide
    wide = port_known numbers (seen_behind k.own.earlier) inner k.own.clean r i.there

    read : VectorRead S inner a.path a.clocks k.own (name_ref r.name)
    read = port_read S inner a.path a.clocks k.own r i.there free_port

    named_wide : (scope_of inner).width (name_ref r.name) ≡ port_wide
    named_wide = port_width S inner a.path a.clocks k.own r i.there

    inward_fits : r.way ≡ Inward → LeftFits S (a.path ++ r.name ∷ []) (expression outer c.path x.value)
    inward_fits way y there same outside v pads suit =
        let n = value (scope_of outer) x.value (names_at c.path v) in
        let good : IsSound S outer c.path k.clocks k.caller x.value =
        record { written = i.written; free = subst (λ (w : Way). way_faults (names_of outer) outer_clock w x ≡ []) way way_free; sized = i.sized } in
        let fits = fits_left x.at port_wide (width (scope_of outer) x.value) n equal_widths (sound_known numbers S outer c.path k.clocks k.caller x.value good) (sound_fits numbers S outer c.path k.clocks k.caller x.value good v suit) in (
          vector_left S once inner a.path a.clocks k.own (name_ref r.name) read y there same n (subst (λ (o : Option ℕ). FitsIn o n) (sym named_wide) fits),
          sound_within numbers S outer c.path k.clocks k.caller x.value good v suit once,
        )

    -- a bare name as an argument
    module _ (used : Use) (bare : bare_faults (names_of outer) outer_clock used x (bare_ref x.value) ≡ []) where
      abbrev of : Ref
      of = (bare_is (names_of outer) outer_clock used x (bare_ref x.value) bare).0

      of_used : use_faults used of.at (ref_name of) (names_of outer (ref_name of)) ≡ []
      of_used = (bare_is (names_of outer) outer_clock used x (bare_ref x.value) bare).2

      is_whole : x.value ≡ whole of
      is_whole = bare_whole x.value of (bare_is (names_of outer) outer_clock used x (bare_ref x.value) bare).1

      of_one : IsOneName of
      of_one = subst IsWrittenTree is_whole i.written

      of_path : c.path ++ bare_path x.value ≡ c.path ++ of.path
      of_path = ap (λ (e : Tree). c.path ++ bare_path e) is_whole

      of_equal : differ x.at port_wide ((scope_of outer).width of) ≡ []
      of_equal = subst (λ (e : Tree). differ x.at port_wide (width (scope_of outer) e) ≡ []) is_whole equal_widths

    outward_fits : r.way ≡ Outward → LeftFits S (c.path ++ bare_path x.value) (copied (a.path ++ r.name ∷ []))
    outward_fits way y there same outside v pads suit =
        let bare = subst (λ (w : Way). way_faults (names_of outer) outer_clock w x ≡ []) way way_free in
        let n = v (a.path ++ r.name ∷ []) 0 in
        let target = receiver_read S outer c.path k.clocks k.caller (of use_.Receiver bare) (of_one use_.Receiver bare) (of use_.Receiver bare).at (of_used use_.Receiver bare) in
        let fits = subst (λ (o : Option ℕ). FitsIn o n) named_wide (copied_fits S once inner a.path a.clocks k.own (name_ref r.name) read v (a.path ++ r.name ∷ []) refl suit) in (
          vector_left S once outer c.path k.clocks k.caller (of use_.Receiver bare) target y there (same ∙ of_path use_.Receiver bare) n
              (fits_right x.at port_wide ((scope_of outer).width (of use_.Receiver bare)) n (of_equal use_.Receiver bare) wide fits),
          tt,
        )

    both_free : r.way ≡ Both → bare_faults (names_of outer) outer_clock use_.Pad x (bare_ref x.value) ≡ []
    both_free way = subst (λ (w : Way). way_faults (names_of outer) outer_clock w x ≡ []) way way_free

    passed_known : (bare : bare_faults (names_of outer) outer_clock use_.Pad x (bare_ref x.value) ≡ []) → Known ((scope_of outer).width (of use_.Pad bare))
    passed_known bare = pad_known numbers (seen_behind k.caller.earlier) outer k.caller.clean (of use_.Pad bare).at (ref_name (of use_.Pad bare)) (of_used use_.Pad bare)

    both_fits : r.way ≡ Both → LeftFits S (a.path ++ r.name ∷ []) (copied (c.path ++ bare_path x.value))
    both_fits way y there same outside v pads suit =
        let bare = both_free way in
        let n = v (c.path ++ bare_path x.value) 0 in
        let passed = pad_read S outer c.path k.clocks k.caller (of use_.Pad bare) (of_one use_.Pad bare) (of use_.Pad bare).at (of_used use_.Pad bare) in
        let fits = fits_left x.at port_wide ((scope_of outer).width (of use_.Pad bare)) n (of_equal use_.Pad bare) (passed_known bare)
        (copied_fits S once outer c.path k.clocks k.caller (of use_.Pad bare) passed v (c.path ++ bare_path x.value) (of_path use_.Pad bare) suit) in
        (vector_left S once inner a.path a.clocks k.own (name_ref r.name) read y there same n (subst (λ (o : Option ℕ). FitsIn o n) (sym named_wide) fits), tt)

    both_equal : r.way ≡ Both → name_width (names_of outer) (bare_name x.value) ≡ name_width (names_of inner) r.name
    both_equal way =
        let bare = both_free way in
        ap (λ (e : Tree). name_width (names_of outer) (bare_name e)) (is_whole use_.Pad bare)
        ∙ sym (same_widths x.at port_wide ((scope_of outer).width (of use_.Pad bare)) (of_equal use_.Pad bare) wide (passed_known bare)) ∙ sym named_wide

  -- a port that isn't inward is no clock
  not_inward : (w v : Way) → w ≡ v → (v ≡ Inward → ⊥) → {T : Type 0} → w ≡ Inward → T
  not_inward w v same other inward = absurd (other (sym same ∙ inward))

  way_fits : (r : Port) (x : ActualTree) → IsArgument r x → (w : Way) → r.way ≡ w → (b : Bool) → is_among a.clocks r.name ≡ b →
      (e : Equation) → IsIn e (way_equations w b (a.path ++ r.name ∷ []) outer c.path x.value) → FlatFits S e
  way_fits r x i Inward way true among e is = absurd is
  way_fits r x i Inward way false among e (inl same) = subst (FlatFits S) (sym same) (inward_fits r x i (λ inward. among) way)
  way_fits r x i Inward way false among e (inr none) = absurd none
  way_fits r x i Outward way b among e (inl same) = subst (FlatFits S) (sym same) (outward_fits r x i (not_inward r.way Outward way (λ f. cc)) way)
  way_fits r x i Outward way b among e (inr none) = absurd none
  way_fits r x i Both way b among e (inl same) = subst (FlatFits S) (sym same) (both_fits r x i (not_inward r.way Both way (λ f. cc)) way)
  way_fits r x i Both way b among e (inr none) = absurd none

  args_fit : (ports : List Port) (args : List ActualTree) → AllArguments ports args → (e : Equation) → IsIn e (arg_equations a.clocks a.path outer c.path ports args) → FlatFits S e
  args_fit [] args all e is = absurd is
  args_fit (r ∷ ports) [] all e is = absurd is
  args_fit (r ∷ ports) (x ∷ args) all e is =
      elim (in_either e (way_equations r.way (is_among a.clocks r.name) (a.path ++ r.name ∷ []) outer c.path x.value) (arg_equations a.clocks a.path outer c.path ports args) is) [
        | inl here ↦ way_fits r x all.0 r.way refl (is_among a.clocks r.name) refl e here
        | inr later ↦ args_fit ports args all.1 e later
      ]

  args_equal : (ports : List Port) (args : List ActualTree) → AllArguments ports args → AreEqual outer inner ports args
  args_equal [] args all = tt
  args_equal (r ∷ ports) [] all = tt
  args_equal (r ∷ ports) (x ∷ args) all = (λ both. both_equal r x all.0 (not_inward r.way Both both (λ f. cc)) both, args_equal ports args all.1)

  given : AllArguments inner.ports c.args
  given = all_arguments inner.ports (λ r there. there) c.args k.written k.free k.sized

  pub arguments_fit : (e : Equation) → IsIn e (arg_equations a.clocks a.path outer c.path inner.ports c.args) → FlatFits S e
  arguments_fit = args_fit inner.ports c.args given

  pub arguments_equal : AreEqual outer inner inner.ports c.args
  arguments_equal = args_equal inner.ports c.args given
