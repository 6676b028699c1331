use Rattle.std.proofs.Common.{◌≤◌, ◌-◌, ◌*◌, ◌^◌, sym, subst, arith}
use Rattle.lola_lanes.proofs.Blocks.{blocks_hold, one_block, fits_word}
use Rattle.lola_lanes.proofs.trial.blocks.Goals as goal

pub returns-then-bits-lt6-clause-enough : goal.returns-then-bits-lt6-clause-enough
returns-then-bits-lt6-clause-enough c = one_block c.args.bits c.if-bits-lt6.true

pub returns-else-bits-lt6-clause-enough : goal.returns-else-bits-lt6-clause-enough
returns-else-bits-lt6-clause-enough c =
    subst (λ n. 2 ^ c.args.bits ≤ 64 * n) (sym (fits_word (c.args.bits - 6) (omega arith)).0) (blocks_hold c.args.bits c.if-bits-lt6.false)

pub returns-else-bits-lt6-clause-few : goal.returns-else-bits-lt6-clause-few
returns-else-bits-lt6-clause-few c = let h = fits_word (c.args.bits - 6) (omega arith) in subst (λ n. n ≤ 2 ^ 57) (sym h.0) h.1
