use Rattle.lola_tree.specs.design.Signals.{signal_paths}
use Rattle.lola_tree.specs.Value.{Values}
use Rattle.lola_design.proofs.Derived.{fixed, are_equations}
use Rattle.lola_design.proofs.Graphs.{loop_to_graph, loop_from_graph}
use Rattle.lola_design.proofs.NamedLoops.{named_loop}
use Rattle.lola_design.proofs.laws.loops.Goals as goal

-- any values will do
abbrev zero : Values
zero = λ x n. 0

pub returns-clause-chain : goal.returns-clause-chain
returns-clause-chain c = λ S is.
    (loop_from_graph S (fixed S is zero zero) (signal_paths S) (are_equations S is zero zero), loop_to_graph S (fixed S is zero zero) (signal_paths S) (are_equations S is zero zero))

pub returns-clause-names : goal.returns-clause-names
returns-clause-names c = λ S numbers is l. named_loop S is zero numbers l
