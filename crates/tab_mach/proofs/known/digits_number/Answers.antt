use Rattle.std.proofs.Common.{◌≡◌, ◌^◌, ◌-◌, ◌+◌, ◌*◌, drop, get_or, suc, min, ap, sym, ◌∙◌, arith}
use Rattle.std.proofs.lemmas.List.{drop_all}
use Rattle.tab_tree.specs.Names.{digits_number}
use Rattle.tab_mach.proofs.Digits.{digit_step}
use Rattle.tab_mach.proofs.known.digits_number.Goals as goal

pub loop-digit-preserved : goal.loop-digit-preserved
loop-digit-preserved c =
    record {
      value =
          ap (λ n. min (digits_number (drop (c.loop-digit.digit-index + 1) c.args.digits.now) n) (2 ^ 64 - 1)) c.with_digit-number.ensures
          ∙ ap (λ j. min (digits_number (drop j c.args.digits.now) (min (10 * c.loop-digit.number + (get_or c.args.digits.now c.loop-digit.digit-index 0 - 48)) (2 ^ 64 - 1))) (2 ^ 64 - 1)) (let e : c.loop-digit.digit-index + 1 ≡ suc c.loop-digit.digit-index = omega arith in e)
          ∙ digit_step c.args.digits.now c.loop-digit.digit-index c.loop-digit.number (2 ^ 64 - 1) (omega arith)
          ∙ c.loop-digit.invariant.value;
      small = let e = c.with_digit-number.ensures in omega arith;
    }

pub returns : goal.returns
returns c =
    let none = drop_all c.loop-digit.digit-index c.args.digits.now (omega arith) in
    let small = c.loop-digit.invariant.small in
    let e : c.loop-digit.number ≡ min c.loop-digit.number (2 ^ 64 - 1) = omega arith in
    e ∙ sym (ap (λ ds. min (digits_number ds c.loop-digit.number) (2 ^ 64 - 1)) none) ∙ c.loop-digit.invariant.value
