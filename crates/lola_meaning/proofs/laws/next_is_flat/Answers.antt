use Rattle.std.proofs.Common.{◌≤◌}
use Rattle.lola_tree.specs.Value.{Path}
use Rattle.lola_tree.specs.design.Signals.{signal_paths}
use Rattle.lola_design.specs.Paths.{count}
use Rattle.lola_flat.specs.Tree.{FlatTree}
use Rattle.lola_flat.specs.Cycle.{IsCycle, IsNext}
use Rattle.lola_design.proofs.Fits.{all_suit}
use Rattle.lola_meaning.specs.Tables.{table_of, given_of, outside_of, state_of}
use Rattle.lola_meaning.proofs.Tables.{table_has}
use Rattle.lola_design.specs.Regular.{IsRegular}
use Rattle.lola_meaning.specs.Typed.{AreTyped}
use Rattle.lola_meaning.proofs.Elaborated.{ordered, stated, to_stated}
use Rattle.lola_meaning.proofs.Cycles.{has_values, all_values_suit}
use Rattle.lola_meaning.proofs.Next.{next_table, next_values}
use Rattle.lola_meaning.proofs.laws.next_is_flat.Goals as goal

pub returns-clause-to_flat : goal.returns-clause-to_flat
returns-clause-to_flat c = λ S F s inp v after sized written is state given cycle next.
    let regular : IsRegular S = c.well_sized_is_regular.ensures S sized written in
    let typed : AreTyped S = c.types_suit.ensures S sized written in
    let once : (x : Path) → count x (signal_paths S) ≤ 1 = λ x. c.one_path.ensures S x regular.names in
    stated S F (λ (G : FlatTree). IsNext G (table_of S v) (state_of S after)) is
    (next_table S regular typed c.what_numbers_elements.ensures once F.order (table_of S v) v (table_has S once v)
    (λ x there other. all_suit S regular F.order (ordered S F (c.flat_uses.ensures.graph S regular) is) s inp state given v cycle x there other) after next)

pub returns-clause-from_flat : goal.returns-clause-from_flat
returns-clause-from_flat c = λ S F s inp N after sized written is state given cycle next.
    let regular : IsRegular S = c.well_sized_is_regular.ensures S sized written in
    let typed : AreTyped S = c.types_suit.ensures S sized written in
    let once : (x : Path) → count x (signal_paths S) ≤ 1 = λ x. c.one_path.ensures S x regular.names in
    let in_order = ordered S F (c.flat_uses.ensures.graph S regular) is in
    let here = to_stated S F (λ (G : FlatTree). IsCycle G (given_of S s inp) (outside_of S inp) N) is cycle in
    next_values S regular typed c.what_numbers_elements.ensures once F.order N
    (has_values S regular typed c.what_numbers_elements.ensures once F.order in_order s inp state given N here)
    (all_values_suit S regular typed c.what_numbers_elements.ensures once F.order in_order s inp state given N here)
    after (to_stated S F (λ (G : FlatTree). IsNext G N after) is next)
