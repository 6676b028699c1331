-- A table that fits a design, with values that suit it, can make steps.
use Rattle.std.proofs.Common.{◌≡◌, ℕ, ◌≤◌, List, [], ◌∷◌, Option, Some, None, subst, sym, arith}
use Rattle.std.specs.List.{AllByRecursion}
use Rattle.lola_bits.specs.declared.vector.Bits.{Bits}
use Rattle.lola_bits.specs.Lists.{AreEach}
use Rattle.lola_bits.specs.Vector.{FitsWidth}
use Rattle.lola_bits.proofs.All.{all_weaker}
use Rattle.lola_tree.specs.Tree.{SourceTree}
use Rattle.tab_tree.specs.declared.value.Answer.{Answer}
use Rattle.tab_tree.specs.declared.value.StateValue.{StateValue}
use Rattle.tab_tree.specs.declared.value.StateValue.TheVariants.{One, Many}
use Rattle.tab_tree.specs.Table.{StateTree, TurnsTree, AccessTree, PhaseTree, InsideTree, ClassTree, TableTree}
use Rattle.tab_tree.specs.Names.{Form, vector_form, array_form, first_width, shape_form}
use Rattle.tab_tree.specs.Step.{Arch, times_of}
use Rattle.tab_tree.specs.Fits.{OfInside, SuitsTurns, PhasesShaped}
use Rattle.tab_tree.specs.Suits.{IsOf, HasForm, SuitsRole, SuitsAnswer, IsSuited}
use Rattle.tab_mach.specs.Vectors.{IsElement, IsValue}
use Rattle.tab_mach.specs.Outcome.{TurnsAreSmall, AreStates, CanStep}

-- turns
few_turns : (o : Option TurnsTree) (access : AccessTree) → SuitsTurns o access → times_of o ≤ 255
few_turns None access suits = omega arith
few_turns (Some t) access suits = suits.1

small : (T : TableTree) (phases : List PhaseTree) → PhasesShaped T phases → TurnsAreSmall phases
small T [] shaped = tt
small T (phase ∷ phases) shaped = (few_turns phase.turns phase.access shaped.0.turns, small T phases shaped.1)

small_inside : (T : TableTree) (o : Option InsideTree) → OfInside (λ b. PhasesShaped T b.phases) o → OfInside (λ b. TurnsAreSmall b.phases) o
small_inside T None shaped = tt
small_inside T (Some b) shaped = small T b.phases shaped

-- states
elements : (width : ℕ) (xs : List Bits) → AllByRecursion (IsOf width) xs → AllByRecursion (IsElement width) xs
elements width xs all = all_weaker (IsOf width) (IsElement width) (λ x is. (is.fits, is.wide)) xs all

many : (width : ℕ) (xs : List Bits) → AllByRecursion (IsOf width) xs → AllByRecursion (IsElement (first_width xs)) xs
many width [] all = tt
many width (x ∷ xs) all = subst (λ (w : ℕ). AllByRecursion (IsElement w) (x ∷ xs)) (sym all.0.wide) (elements width (x ∷ xs) all)

value_fits : (form : Form) (a : StateValue) → HasForm form a → IsValue (Some a)
value_fits (vector_form width) (One x) has = has.fits
value_fits (vector_form width) (Many xs) has = absurd has
value_fits (array_form count width) (One x) has = absurd has
value_fits (array_form count width) (Many xs) has = many width xs has.1

states : (rows : List StateTree) (A : Arch) → AreEach (λ (row : StateTree) (a : StateValue). HasForm (shape_form row.shape) a) rows A → AreStates A
states [] [] each = tt
states [] (a ∷ A) each = absurd each
states (row ∷ rows) [] each = absurd each
states (row ∷ rows) (a ∷ A) each = (value_fits (shape_form row.shape) a each.0, states rows A each.1)

-- what a role brings
role_fits : (S : SourceTree) (role : Option (List ℕ)) (x : Bits) → SuitsRole S role x → FitsWidth x.width x.value
role_fits S None x suits =
    let wide : x.width ≡ 1 = suits.0 in
    let none : x.value ≡ 0 = suits.1 in
    subst (λ (w : ℕ). FitsWidth w x.value) (sym wide) (record { positive = omega arith; at_most = omega arith; below = omega arith })
role_fits S (Some port) x suits = suits.fits

pub suited : (T : TableTree) (A : Arch) (i : Bits) (answers : List Answer) → IsSuited T A i answers → CanStep T A i answers
suited T A i answers is = record {
  small = is.fitting.small;
  turns = all_weaker (λ (c : ClassTree). OfInside (λ b. PhasesShaped T b.phases) c.inside) (λ (c : ClassTree). OfInside (λ b. TurnsAreSmall b.phases) c.inside) (λ c shaped. small_inside T c.inside shaped) T.classes is.fitting.phases.each;
  arch = states T.states A is.arch;
  code = is.code.fits;
  loaded = all_weaker (SuitsAnswer is.source T) (λ (answer : Answer). FitsWidth answer.loaded.width answer.loaded.value) (λ answer suits. role_fits is.source T.roles.loaded answer.loaded suits.loaded) answers is.each;
}
