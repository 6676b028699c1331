use Rattle.std.proofs.Common.{ℕ, List, [], ◌∷◌, ◌++◌, map, ap, ◌∙◌}
use Rattle.veri_read.specs.Held.{listed}
use Rattle.veri_read.proofs.Nets.{map_here}
use Rattle.veri_read.proofs.net.port_names.Goals as goal

pub loop-place-preserved : goal.loop-place-preserved
loop-place-preserved c =
    map_here (λ p. p.0) (listed c.args.ports.now) c.loop-place.place (c.at.result.0.now, c.at.result.1) c.loop-place.names c.push.new.self (map (λ p. p.0) (listed c.args.ports.now)) c.at.ensures
    (c.in_ok-push.ensures.ok ∙ ap (λ (name : List ℕ). c.loop-place.names ++ name ∷ []) c.in_ok-new.ensures) c.loop-place.invariant
