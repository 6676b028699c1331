use Rattle.std.proofs.Common.{◌≡◌, ◌+◌, ◌-◌, ◌^◌, ◌≤◌, drop, map, sum}
use Rattle.lola_tree.specs.declared.module.Local.{Local}
use Rattle.lola_width.specs.Table.{found}
use Rattle.lola_unfold.specs.Slots.{capped}
use Rattle.lola_unfold.specs.Measured.{kind_size, outline_of, outline_size}
use Rattle.lola_unfold.proofs.measure.locals_size.Given as goal

abbrev pub invariant-loop-local : goal.invariant-loop-local
invariant-loop-local l = record {
  total :
      capped (l.size + sum (map (λ (x : Local). kind_size (λ name. outline_size (outline_of l.known name)) (found l.names) x.kind) (drop l.local-index l.locals)))
      ≡ capped (sum (map (λ (x : Local). kind_size (λ name. outline_size (outline_of l.known name)) (found l.names) x.kind) l.locals));
  within : l.size ≤ 2 ^ 32 - 1;
}
