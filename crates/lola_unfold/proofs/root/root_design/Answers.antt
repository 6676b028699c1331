use Rattle.std.proofs.Common.{◌≤◌, List, length, map, sym, ap, ◌∙◌, subst}
use Rattle.lola_tree.specs.declared.module.Port.{Port}
use Rattle.lola_flat.specs.declared.design.Signal.{Signal as FlatSignal}
use Rattle.lola_flat.specs.Numbers.{first_numbers}
use Rattle.lola_flat.specs.Tree.{signal_tree}
use Rattle.lola_unfold.proofs.root.root_design.Goals as goal

pub returns-clause-flat : goal.returns-clause-flat
returns-clause-flat c = λ once.
    let made = c.in_ok-clock.ensures once in
    let root = c.in_ok-name.ensures ∙ c.text.ensures in
    let clock = made.clock_is in
    let ports = c.in_ok-ports.ensures ∙ ap (λ (ps : List Port). first_numbers (length ps)) c.items.ensures in
    let signals = ap (map signal_tree) c.of.ensures ∙ made.signals_are in
    let order = c.new-2.ensures in
    λ i. record { root = root i; clock = clock i; ports = ports i; signals = signals i; order = order i }

pub returns-clause-few : goal.returns-clause-few
returns-clause-few c = λ once. subst (λ (l : List FlatSignal). length l ≤ 65536) (sym c.of.ensures) (c.in_ok-clock.ensures once).few
