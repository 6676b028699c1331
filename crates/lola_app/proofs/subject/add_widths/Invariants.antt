use Rattle.std.proofs.Common.{◌≡◌, ◌++◌, drop}
use Rattle.lola_elab.specs.Elaborated.{vector_widths}
use Rattle.lola_app.proofs.subject.add_widths.Given as goal

-- the widths so far, and those behind
abbrev pub invariant-loop-vector : goal.invariant-loop-vector
invariant-loop-vector l = l.widths.items ++ vector_widths (drop l.vector-index l.vectors) ≡ l.fn.widths.items ++ vector_widths l.vectors
