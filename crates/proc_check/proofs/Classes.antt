-- The phases of a fitting table: accumulators are of their types, and loaded words are those of LOADED.
use Rattle.std.proofs.Common.{◌≡◌, ◌≢◌, ℕ, suc, Bool, true, false, List, [], ◌∷◌, length, refl, sym, subst, arith, Option, Some, None}
use Rattle.std.specs.Prelude.{flat_map}
use Rattle.std.specs.List.{AllByRecursion}
use Rattle.lola_bits.specs.declared.vector.Bits.{Bits}
use Rattle.lola_bits.specs.Lists.{IsIn}
use Rattle.lola_bits.proofs.All.{of_all, all_of, all_front, all_back, all_flat}
use Rattle.lola_tree.specs.Tree.{Tree, SourceTree}
use Rattle.lola_tree.specs.Width.{width}
use Rattle.tab_tree.specs.declared.value.StateValue.{StateValue}
use Rattle.tab_tree.specs.Table.{StateTree, TurnsTree, AccessTree, idle_row, take_row, load_row, store_row, fetch_row, PhaseTree, InsideTree, ClassTree, TableTree}
use Rattle.tab_tree.specs.Names.{Form, vector_form, array_form, Names, nothing, no_names, form_width, scope_by, shape_form, table_vector, table_value}
use Rattle.tab_tree.specs.Registers.{source_forms}
use Rattle.tab_tree.specs.Step.{Arch, Words, counted, class_names}
use Rattle.tab_tree.specs.Placed.{Placed, word_width, takes_word, count_form, word_forms, bare_forms, class_forms, rows_placed, has_turns, turns_placed, phase_placed, phases_placed, some_turns, inside_placed, class_placed, given_placed, state_placed, set_placed, role_width, address_width}
use Rattle.tab_tree.specs.Suits.{IsOf, SuitsArch}
use Rattle.tab_tree.specs.Fits.{IsAVector, HasWidth, EachInside, OfInside, TurnsAreVectors, SuitsTurns, SuitsAccess, PhasesShaped, StartsPlain, IsFitting}
use Rattle.obl_def.specs.Forms.{HasFormAt, AreOf}
use Rattle.obl_def.specs.Valuation.{SuitsForm, SuitsWords}
use Rattle.proc_check.proofs.Basis.{TurnsFit, PhasesFit, StepsFit}

-- an expression has a width where it stands, and the one that is needed
abbrev Wide : Placed → Type 0
Wide e = HasWidth e.wanted (width (scope_by e.names) e.expr)

-- what is known of expressions, and of the names of a class
abbrev pub HaveVectors : Type 0
HaveVectors = (forms : Names Form) (names : Names StateValue) → AreOf forms names → (e : Tree) (w : ℕ) → width (scope_by forms) e ≡ Some w →
    (table_vector names e ≡ Some (table_value names e)) × IsOf w (table_value names e)

abbrev pub HaveForms : SourceTree → TableTree → Type 0
HaveForms S T =
    (b : InsideTree) (loads turns : ℕ) (A : Arch) (i : Bits) (m : Words) (counts : Bool) (k : Option ℕ) → SuitsArch T A → IsOf (word_width S T) i → SuitsWords S T b loads turns m →
    HasFormAt (count_form counts) (counted k) → AreOf (class_forms S T b loads turns counts nothing) (class_names T b A i m k)

module _ (vectors : HaveVectors) (S : SourceTree) (T : TableTree) (class_has : HaveForms S T) where
  -- an accumulator's value
  turned_fits : (form : Form) (f : Names Form) (names : Names StateValue) → AreOf f names → (e : Tree) → IsAVector (Some form) → HasWidth (form_width (Some form)) (width (scope_by f) e) → SuitsForm (Some form) (table_vector names e)
  turned_fits (vector_form w) f names are e is wide = let v = vectors f names are e w wide in subst (λ x. SuitsForm (Some (vector_form w)) x) (sym v.0) v.1
  turned_fits (array_form c w) f names are e is wide = absurd is

  turns_fit : (b : InsideTree) (p : ℕ) (o : Option TurnsTree) (access : AccessTree) → SuitsTurns o access → TurnsAreVectors o →
      AllByRecursion Wide (turns_placed (class_forms S T b p p false nothing) (class_forms S T b p (suc p) (has_turns o) nothing) o) → TurnsFit S T b p o
  turns_fit b p None access suits are wide = tt
  turns_fit b p (Some t) access suits are wide = record {
    some = suits.0;
    few = suits.1;
    first = λ A i m old word words. turned_fits (shape_form t.shape) (class_forms S T b p p false nothing) (class_names T b A i m None) (class_has b p p A i m false None old word words tt) t.first are wide.0;
    step = λ A i m k old word words small. turned_fits (shape_form t.shape) (class_forms S T b p (suc p) true nothing) (class_names T b A i m (Some k))
        (class_has b p (suc p) A i m true (Some k) old word words (record { wide = refl; fits = record { positive = omega arith; at_most = omega arith; below = small } })) t.step are wide.1.0;
  }

  -- a loaded word needs LOADED
  loads_by : (access : AccessTree) → SuitsAccess T access → takes_word access ≡ true → T.roles.loaded ≢ None
  loads_by idle_row suits takes = absurd (cc)
  loads_by take_row suits takes = suits.0
  loads_by (load_row adr byte) suits takes = suits.0
  loads_by (store_row adr byte word) suits takes = absurd (cc)
  loads_by (fetch_row adr) suits takes = absurd (cc)

  phases_fit : (b : InsideTree) (p : ℕ) (phases : List PhaseTree) → PhasesShaped T phases → AllByRecursion (λ (phase : PhaseTree). TurnsAreVectors phase.turns) phases →
      AllByRecursion Wide (phases_placed S T b p phases) → PhasesFit S T b p phases
  phases_fit b p [] shaped are wide = tt
  phases_fit b p (phase ∷ phases) shaped are wide =
      let here = all_front Wide (phase_placed S T b p phase) (phases_placed S T b (suc p) phases) wide in
      let turning = turns_placed (class_forms S T b p p false nothing) (class_forms S T b p (suc p) (has_turns phase.turns) nothing) phase.turns in (
        record { turns = turns_fit b p phase.turns phase.access shaped.0.turns are.0 (all_front Wide turning _ here); loads = loads_by phase.access shaped.0.access },
        phases_fit b (suc p) phases shaped.1 are.1 (all_back Wide (phase_placed S T b p phase) (phases_placed S T b (suc p) phases) wide),
      )

  inside_is : (P : ClassTree → InsideTree → Type 0) → EachInside P T → (c : ClassTree) → IsIn c T.classes → (b : InsideTree) → c.inside ≡ Some b → P c b
  inside_is P each c listed b inside = subst (OfInside (P c)) inside (of_all (λ (c : ClassTree). OfInside (P c) c.inside) c T.classes each listed)

  -- the expressions of classes stand last
  class_wide : IsFitting S T → (c : ClassTree) → IsIn c T.classes → (b : InsideTree) → c.inside ≡ Some b → AllByRecursion Wide (inside_placed S T b)
  class_wide fit c listed b inside =
      let a = all_back Wide (given_placed T.roles.code (source_forms S) (role_width S T.roles.fetched)) _ fit.widths.exprs in
      let b' = all_back Wide (flat_map (λ (row : StateTree). state_placed S row.shape row.shown) T.states) _ a in
      let c' = all_back Wide (rows_placed T.fields (word_forms S T)) _ b' in
      let d = all_back Wide (flat_map (set_placed T no_names) T.starts) _ c'.1.1 in
      let e = all_back Wide (given_placed T.start_fetch no_names (address_width S T.roles.bus)) _ d in
      subst (λ o. AllByRecursion Wide (class_placed S T o)) inside (all_flat Wide (λ (c : ClassTree). class_placed S T c.inside) c T.classes e listed)

  pub classes_fit : IsFitting S T → AllByRecursion (λ (c : ClassTree). (b : InsideTree) → c.inside ≡ Some b → StepsFit S T b) T.classes
  classes_fit fit = all_of (λ (c : ClassTree). (b : InsideTree) → c.inside ≡ Some b → StepsFit S T b) T.classes (λ c listed b inside.
      let wide = all_back Wide (rows_placed b.lets (bare_forms S T b.phases (length b.phases) (length b.phases) (some_turns b.phases) nothing)) _ (class_wide fit c listed b inside) in
      record {
        plain = inside_is (λ c b. StartsPlain b.phases) fit.phases.first c listed b inside;
        phases = phases_fit b 0 b.phases (inside_is (λ c b. PhasesShaped T b.phases) fit.phases.each c listed b inside)
            (inside_is (λ c b. AllByRecursion (λ (phase : PhaseTree). TurnsAreVectors phase.turns) b.phases) fit.kinds.turns c listed b inside)
            (all_front Wide (phases_placed S T b 0 b.phases) _ wide);
      })
