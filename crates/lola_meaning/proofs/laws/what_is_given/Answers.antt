use Rattle.lola_design.specs.Regular.{IsRegular}
use Rattle.lola_flat.specs.Tree.{FlatTree}
use Rattle.lola_flat.specs.Cycle.{AreGiven, AreOutside, IsCycle}
use Rattle.lola_meaning.specs.Tables.{given_of, outside_of, values_of, input_of}
use Rattle.lola_meaning.specs.Typed.{AreTyped, ClockFits}
use Rattle.lola_meaning.proofs.Elaborated.{flat_ordered, stated, to_stated}
use Rattle.lola_meaning.proofs.Given.{are_given, are_outside, is_state, is_given, same_cycle}
use Rattle.lola_meaning.proofs.laws.what_is_given.Goals as goal

pub returns-clause-given : goal.returns-clause-given
returns-clause-given c = λ S F s inp sized written is state given.
    let regular : IsRegular S = c.well_sized_is_regular.ensures S sized written in
    let typed : AreTyped S = c.types_suit.ensures S sized written in
    let clocked : ClockFits S = c.one_clock_port.ensures S sized written in
    stated S F (λ (G : FlatTree). AreGiven G (given_of S s inp)) is
    (are_given S regular typed c.what_numbers_elements.ensures (λ x. c.one_path.ensures S x regular.names) F.order clocked s inp state given)

pub returns-clause-outside : goal.returns-clause-outside
returns-clause-outside c = λ S F inp sized written is given.
    let regular : IsRegular S = c.well_sized_is_regular.ensures S sized written in
    let typed : AreTyped S = c.types_suit.ensures S sized written in
    let clocked : ClockFits S = c.one_clock_port.ensures S sized written in
    stated S F (λ (G : FlatTree). AreOutside G (outside_of S inp)) is
    (are_outside S regular typed c.what_numbers_elements.ensures (λ x. c.one_path.ensures S x regular.names) F.order clocked inp given)

pub returns-clause-state : goal.returns-clause-state
returns-clause-state c = λ S F given outside sized written is are outer.
    let regular : IsRegular S = c.well_sized_is_regular.ensures S sized written in
    let typed : AreTyped S = c.types_suit.ensures S sized written in
    let clocked : ClockFits S = c.one_clock_port.ensures S sized written in
    is_state S regular typed c.what_numbers_elements.ensures (λ x. c.one_path.ensures S x regular.names) F.order clocked given outside
    (to_stated S F (λ (G : FlatTree). AreGiven G given) is are) (to_stated S F (λ (G : FlatTree). AreOutside G outside) is outer)

pub returns-clause-input : goal.returns-clause-input
returns-clause-input c = λ S F given outside sized written is are outer.
    let regular : IsRegular S = c.well_sized_is_regular.ensures S sized written in
    let typed : AreTyped S = c.types_suit.ensures S sized written in
    let clocked : ClockFits S = c.one_clock_port.ensures S sized written in
    is_given S regular typed c.what_numbers_elements.ensures (λ x. c.one_path.ensures S x regular.names) F.order clocked given outside
    (to_stated S F (λ (G : FlatTree). AreGiven G given) is are) (to_stated S F (λ (G : FlatTree). AreOutside G outside) is outer)

pub returns-clause-same : goal.returns-clause-same
returns-clause-same c = λ S F given outside N sized written is are outer cycle.
    let regular : IsRegular S = c.well_sized_is_regular.ensures S sized written in
    let typed : AreTyped S = c.types_suit.ensures S sized written in
    let clocked : ClockFits S = c.one_clock_port.ensures S sized written in
    stated S F (λ (G : FlatTree). IsCycle G (given_of S (values_of S given) (input_of S given outside)) (outside_of S (input_of S given outside)) N) is
    (same_cycle S regular typed c.what_numbers_elements.ensures (λ x. c.one_path.ensures S x regular.names) F.order clocked given outside
    (to_stated S F (λ (G : FlatTree). AreGiven G given) is are) (to_stated S F (λ (G : FlatTree). AreOutside G outside) is outer) N (to_stated S F (λ (G : FlatTree). IsCycle G given outside N) is cycle) (flat_ordered S F is))
