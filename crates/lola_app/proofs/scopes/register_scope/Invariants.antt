use Rattle.std.proofs.Common.{◌≡◌, ◌+◌, ◌++◌, drop, map, string_bytes}
use Rattle.lola_elab.specs.Leaves.{leaves_from, shown}
use Rattle.lola_app.proofs.scopes.register_scope.Given as goal

abbrev pub invariant-loop-place : goal.invariant-loop-place
invariant-loop-place l =
    shown l.source.items ++ leaves_from (l.inputs + l.place) (map string_bytes (drop l.place l.face.registers.items))
    ≡ leaves_from l.inputs (map string_bytes l.face.registers.items)
