use Rattle.std.proofs.Common.{ℕ, ◌<◌, ◌^◌, false, get_or, sym, subst, arith}
use Rattle.lola_bits.proofs.BitLists.{number_lt}
use Rattle.lola_cases.proofs.Vectors.{more_below}
use Rattle.lola_cases.proofs.evaluation.+number_of.Goals as goal

pub overflow_mul-result : goal.overflow_mul-result
overflow_mul-result t c = let h : c.number_of.result < 2 ^ 127 = subst (λ (n : ℕ). n < 2 ^ 127) (sym c.number_of.ensures) (more_below c.args.bits.now c.requires) in omega (arith, h)

pub overflow_add-result : goal.overflow_add-result
overflow_add-result t c =
    let h : c.number_of.result < 2 ^ 127 = subst (λ (n : ℕ). n < 2 ^ 127) (sym c.number_of.ensures) (more_below c.args.bits.now c.requires) in
    let low : c.number.result < 2 = subst (λ (n : ℕ). n < 2) (sym c.number.ensures) (number_lt (get_or c.args.bits.now 0 false)) in
    omega (arith, h, low)
