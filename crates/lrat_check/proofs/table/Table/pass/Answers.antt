use Rattle.std.proofs.Common.{sym, subst, ◌≤◌}
use Rattle.lrat_check.specs.Held.{Held}
use Rattle.lrat_check.proofs.KeysFound.{rises_further}
use Rattle.lrat_check.proofs.table.Table.pass.Goals as goal

pub invariant_of-self : goal.invariant_of-self
invariant_of-self c = record {
  within = c.self.invariant.within;
  rises = rises_further 0 c.self.inside.last c.args.last c.self.inside.entries.items (subst (λ (h : Held). h.last ≤ c.args.last) (sym c.self.view_is) c.requires) c.self.invariant.rises;
}
