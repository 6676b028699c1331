use Rattle.std.proofs.Common.{ℕ, List, map, sym, subst}
use Rattle.std.specs.List.{AllByRecursion}
use Rattle.lola_bits.specs.BitLists.{number_of}
use Rattle.lola_flat.specs.Tree.{flat_tree}
use Rattle.lola_flat.specs.Cycle.{IsCycle}
use Rattle.lola_cases.specs.Bits.{IsNarrow, table_numbers}
use Rattle.lola_cases.proofs.PlainCycles.{signals_narrow, state_narrow}
use Rattle.lola_cases.proofs.evaluation.behind.Goals as goal

pub table_numbers-requires : goal.table_numbers-requires
table_numbers-requires c =
    let F = flat_tree c.args.flat.now in
    let outside : List ℕ = map number_of c.as_slice.result.now in
    let N : List (List ℕ) = table_numbers c.in_ok-bits.bits.items in
    subst (AllByRecursion (AllByRecursion IsNarrow)) (sym c.as_slice-3.ensures.value)
    (signals_narrow F c.requires.formed c.args.numbers.now c.requires.case outside c.in_ok-bits.bits.items c.in_ok-bits.ensures.wide
    (subst (λ (g : List (List ℕ)). IsCycle F g outside N) c.in_ok-given.ensures.given c.in_ok-bits.ensures.cycle))

pub table_numbers-requires-2 : goal.table_numbers-requires-2
table_numbers-requires-2 c =
    subst (AllByRecursion (AllByRecursion IsNarrow)) (sym c.as_slice-4.ensures.value)
    (state_narrow (flat_tree c.args.flat.now) c.requires.formed (table_numbers c.as_slice-2.result.now) c.in_ok-next.next.items c.in_ok-next.ensures.wide c.in_ok-next.ensures.next)
