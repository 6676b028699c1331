use Rattle.std.proofs.Common.{◌∙◌}
use Rattle.lola_flat.specs.Tree.{FlatTree}
use Rattle.lola_flat.specs.Cycle.{IsCycle}
use Rattle.lola_meaning.specs.Tables.{table_of, given_of, outside_of, values_of}
use Rattle.lola_design.specs.Regular.{IsRegular}
use Rattle.lola_meaning.specs.Typed.{AreTyped}
use Rattle.lola_meaning.proofs.Elaborated.{ordered, stated, to_stated}
use Rattle.lola_meaning.proofs.Cycles.{cycle_of_table, cycle_from_table, table_again}
use Rattle.lola_meaning.proofs.ReadBack.{same_table}
use Rattle.lola_meaning.proofs.laws.cycles_are_flat.Goals as goal

pub returns-clause-to_flat : goal.returns-clause-to_flat
returns-clause-to_flat c = λ S F s inp v sized written is state given cycle.
    let regular : IsRegular S = c.well_sized_is_regular.ensures S sized written in
    let typed : AreTyped S = c.types_suit.ensures S sized written in
    stated S F (λ (G : FlatTree). IsCycle G (given_of S s inp) (outside_of S inp) (table_of S v)) is
    (cycle_of_table S regular typed c.what_numbers_elements.ensures (λ x. c.one_path.ensures S x regular.names) F.order (ordered S F (c.flat_uses.ensures.graph S regular) is) s inp state given v cycle)

pub returns-clause-from_flat : goal.returns-clause-from_flat
returns-clause-from_flat c = λ S F s inp N sized written is state given cycle.
    let regular : IsRegular S = c.well_sized_is_regular.ensures S sized written in
    let typed : AreTyped S = c.types_suit.ensures S sized written in
    cycle_from_table S regular typed c.what_numbers_elements.ensures (λ x. c.one_path.ensures S x regular.names) F.order (ordered S F (c.flat_uses.ensures.graph S regular) is) s inp state given N
    (to_stated S F (λ (G : FlatTree). IsCycle G (given_of S s inp) (outside_of S inp) N) is cycle)

pub returns-clause-one_table : goal.returns-clause-one_table
returns-clause-one_table c = λ S F s inp N sized written is state given cycle.
    let regular : IsRegular S = c.well_sized_is_regular.ensures S sized written in
    let typed : AreTyped S = c.types_suit.ensures S sized written in
    table_again S regular typed c.what_numbers_elements.ensures (λ x. c.one_path.ensures S x regular.names) F.order (ordered S F (c.flat_uses.ensures.graph S regular) is) s inp state given N
    (to_stated S F (λ (G : FlatTree). IsCycle G (given_of S s inp) (outside_of S inp) N) is cycle)

pub returns-clause-only : goal.returns-clause-only
returns-clause-only c = λ S F s inp v N sized written is state given cycle flat_cycle.
    let regular : IsRegular S = c.well_sized_is_regular.ensures S sized written in
    let typed : AreTyped S = c.types_suit.ensures S sized written in
    let in_order = ordered S F (c.flat_uses.ensures.graph S regular) is in
    let here = to_stated S F (λ (G : FlatTree). IsCycle G (given_of S s inp) (outside_of S inp) N) is flat_cycle in
    let back = cycle_from_table S regular typed c.what_numbers_elements.ensures (λ x. c.one_path.ensures S x regular.names) F.order in_order s inp state given N here in
    same_table S v (values_of S N) (λ x there other. (c.elaborated_cycle.ensures.cycle S F s inp regular is state given).same v (values_of S N) cycle back x there other)
    ∙ table_again S regular typed c.what_numbers_elements.ensures (λ x. c.one_path.ensures S x regular.names) F.order in_order s inp state given N here
