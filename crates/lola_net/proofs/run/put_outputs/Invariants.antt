use Rattle.std.proofs.Common.{◌≡◌, ◌++◌, take, drop, map}
use Rattle.lola_net.specs.Literals.{at_literal}
use Rattle.lola_net.proofs.run.put_outputs.Given as goal

abbrev pub invariant-loop-at : goal.invariant-loop-at
invariant-loop-at l = take l.at l.into ++ map (λ o. at_literal l.values o.1) (drop l.at l.outputs) ≡ map (λ o. at_literal l.values o.1) l.outputs
