use Rattle.std.proofs.Common.{◌≤◌, subst, ◌∙◌, sym}
use Rattle.lola_app.specs.Obligations.{total}
use Rattle.lola_app.proofs.Trying.{tried_few}
use Rattle.lola_app.proofs.decide.free_bits.Goals as goal

pub total-requires : goal.total-requires
total-requires c = subst (λ ws. total ws ≤ 16777216) (sym (c.as_slice.ensures.value ∙ c.in_ok-widths.ensures)) (tried_few c.args.subject.now c.args.which c.requires)
