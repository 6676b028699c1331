use Rattle.std.proofs.Common.{◌≡◌, ◌≤◌}
use Rattle.lola_flat.specs.Tree.{FlatTree}
use Rattle.lola_flat.specs.Cycle.{AreGiven, AreOutside}
use Rattle.lola_cases.specs.Cases.{IsCase}
use Rattle.lola_cases.specs.Cases as flat
use Rattle.lola_tree.specs.Value.{Path}
use Rattle.lola_tree.specs.design.Signals.{signal_paths}
use Rattle.lola_design.specs.Paths.{count}
use Rattle.lola_design.specs.Regular.{IsRegular}
use Rattle.lola_meaning.specs.Tables.{given_of, outside_of}
use Rattle.lola_meaning.proofs.Elaborated.{stated, to_stated}
use Rattle.lola_states.specs.States.{case_of}
use Rattle.lola_states.proofs.Counted.{nothing, nothing_is_state, nothing_is_given}
use Rattle.lola_states.proofs.Dealt.{given_same, outside_same, is_case}
use Rattle.lola_states.proofs.laws.states_are_cases.Goals as goal

pub returns-clause-case : goal.returns-clause-case
returns-clause-case c = λ S F s inp sized written is state given.
    let regular : IsRegular S = c.well_sized_is_regular.ensures S sized written in
    let once : (x : Path) → count x (signal_paths S) ≤ 1 = λ x. c.one_path.ensures S x regular.names in
    let fits = to_stated S F (λ (G : FlatTree). AreGiven G (given_of S nothing nothing)) is (c.what_is_given.ensures.given S F nothing nothing sized written is (nothing_is_state S) (nothing_is_given S)) in
    stated S F (λ (G : FlatTree). IsCase G (case_of S s inp)) is
    (is_case S regular.vectors once F.order fits s inp
    (to_stated S F (λ (G : FlatTree). AreGiven G (given_of S s inp)) is (c.what_is_given.ensures.given S F s inp sized written is state given))
    (to_stated S F (λ (G : FlatTree). AreOutside G (outside_of S inp)) is (c.what_is_given.ensures.outside S F inp sized written is given)))

pub returns-clause-given : goal.returns-clause-given
returns-clause-given c = λ S F s inp sized written is.
    let regular : IsRegular S = c.well_sized_is_regular.ensures S sized written in
    let once : (x : Path) → count x (signal_paths S) ≤ 1 = λ x. c.one_path.ensures S x regular.names in
    let fits = to_stated S F (λ (G : FlatTree). AreGiven G (given_of S nothing nothing)) is (c.what_is_given.ensures.given S F nothing nothing sized written is (nothing_is_state S) (nothing_is_given S)) in
    stated S F (λ (G : FlatTree). flat.given_of G (case_of S s inp) ≡ given_of S s inp) is (given_same S regular.vectors once F.order fits s inp)

pub returns-clause-outside : goal.returns-clause-outside
returns-clause-outside c = λ S F s inp sized written is.
    let regular : IsRegular S = c.well_sized_is_regular.ensures S sized written in
    let once : (x : Path) → count x (signal_paths S) ≤ 1 = λ x. c.one_path.ensures S x regular.names in
    let fits = to_stated S F (λ (G : FlatTree). AreGiven G (given_of S nothing nothing)) is (c.what_is_given.ensures.given S F nothing nothing sized written is (nothing_is_state S) (nothing_is_given S)) in
    stated S F (λ (G : FlatTree). flat.outside_of G (case_of S s inp) ≡ outside_of S inp) is (outside_same S regular.vectors once F.order fits s inp)
