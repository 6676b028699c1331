use Rattle.std.proofs.Common.{◌≡◌, drop, flat_map}
use Rattle.lola_tree.specs.declared.module.Local.{Local}
use Rattle.lola_unfold.specs.Tables.{calls_in, args_or_none, clocks_found, clocks_with, clocks_by, no_clock}
use Rattle.lola_unfold.specs.Measured.{outline_of, outline_ports}
use Rattle.lola_unfold.proofs.measure.clocks_of.Given as goal

abbrev pub invariant-loop-local : goal.invariant-loop-local
invariant-loop-local l =
    clocks_with (clocks_found l.clocks) (flat_map (λ (x : Local). clocks_by (λ other. outline_ports (outline_of l.known other)) (λ other. args_or_none (calls_in l.calls other)) x.name x.kind) (drop l.local-index l.locals))
    ≡ clocks_with no_clock (flat_map (λ (x : Local). clocks_by (λ other. outline_ports (outline_of l.known other)) (λ other. args_or_none (calls_in l.calls other)) x.name x.kind) l.locals)
