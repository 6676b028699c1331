use Rattle.std.proofs.Common.{◌≤◌, ℕ, List, sym, ◌∙◌, subst}
use Rattle.lola_flat.specs.Tree.{FlatTree}
use Rattle.lola_flat.specs.Cycle.{AreGiven}
use Rattle.lola_cases.specs.Cases.{GiveSame}
use Rattle.lola_cases.specs.Cases as flat
use Rattle.lola_tree.specs.Value.{Path, Values}
use Rattle.lola_tree.specs.design.Signals.{signal_paths}
use Rattle.lola_design.specs.Paths.{count}
use Rattle.lola_design.specs.Regular.{IsRegular}
use Rattle.lola_meaning.specs.Tables.{given_of, outside_of, values_of, input_of}
use Rattle.lola_meaning.proofs.Elaborated.{stated, to_stated}
use Rattle.lola_states.specs.States.{case_of}
use Rattle.lola_states.proofs.Counted.{nothing, nothing_is_state, nothing_is_given}
use Rattle.lola_states.proofs.GivenBack.{give_same_itself, gives_same}
use Rattle.lola_states.proofs.laws.cases_are_states.Goals as goal

pub returns-clause-state : goal.returns-clause-state
returns-clause-state c = λ S F numbers sized written is small case.
    let formed = c.elaborated_is_formed.ensures S F sized written is small in
    c.what_is_given.ensures.state S F (flat.given_of F numbers) (flat.outside_of F numbers) sized written is (c.cases_are_given.ensures.given F numbers formed case) (c.cases_are_given.ensures.outside F numbers formed case)

pub returns-clause-input : goal.returns-clause-input
returns-clause-input c = λ S F numbers sized written is small case.
    let formed = c.elaborated_is_formed.ensures S F sized written is small in
    c.what_is_given.ensures.input S F (flat.given_of F numbers) (flat.outside_of F numbers) sized written is (c.cases_are_given.ensures.given F numbers formed case) (c.cases_are_given.ensures.outside F numbers formed case)

pub returns-clause-case : goal.returns-clause-case
returns-clause-case c = λ S F numbers sized written is small case.
    let regular : IsRegular S = c.well_sized_is_regular.ensures S sized written in
    let once : (x : Path) → count x (signal_paths S) ≤ 1 = λ x. c.one_path.ensures S x regular.names in
    let fits = to_stated S F (λ (G : FlatTree). AreGiven G (given_of S nothing nothing)) is (c.what_is_given.ensures.given S F nothing nothing sized written is (nothing_is_state S) (nothing_is_given S)) in
    let formed = c.elaborated_is_formed.ensures S F sized written is small in
    let given : List (List ℕ) = flat.given_of F numbers in
    let outside : List ℕ = flat.outside_of F numbers in
    let are = c.cases_are_given.ensures.given F numbers formed case in
    let outer = c.cases_are_given.ensures.outside F numbers formed case in
    let s : Values = values_of S given in
    let inp : Values = input_of S given outside in
    let one = c.each_is_one_case.ensures F given outside formed are outer in
    let state = c.what_is_given.ensures.state S F given outside sized written is are outer in
    let input = c.what_is_given.ensures.input S F given outside sized written is are outer in
    let same : GiveSame F given outside (given_of S s inp) (outside_of S inp) =
    stated S F (λ (G : FlatTree). GiveSame G given outside (given_of S s inp) (outside_of S inp)) is
    (gives_same S regular.vectors once F.order fits given outside (to_stated S F (λ (G : FlatTree). AreGiven G given) is are)) in
    one.only (case_of S s inp) (c.states_are_cases.ensures.case S F s inp sized written is state input)
    (subst (λ (l : List ℕ). GiveSame F given outside (flat.given_of F (case_of S s inp)) l) (sym (c.states_are_cases.ensures.outside S F s inp sized written is))
    (subst (λ (l : List (List ℕ)). GiveSame F given outside l (outside_of S inp)) (sym (c.states_are_cases.ensures.given S F s inp sized written is)) same))
    ∙ sym (one.only numbers case (give_same_itself F given outside))
