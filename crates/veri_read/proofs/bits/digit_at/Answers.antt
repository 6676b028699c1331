use Rattle.std.proofs.Common.{◌≡◌, ◌<◌, ◌+◌, ◌-◌, length, take, ap, ◌∙◌, arith}
use Rattle.std.proofs.lemmas.List.{take_more}
use Rattle.veri_read.specs.Bits.{number_of}
use Rattle.veri_read.proofs.Numbers.{digit_behind}
use Rattle.veri_read.proofs.bits.digit_at.Goals as goal

pub returns-else-place-left-clause-more : goal.returns-else-place-left-clause-more
returns-else-place-left-clause-more c =
    let ds = c.args.digits.now in
    let k = c.args.place - (c.args.places - length ds) in
    let next : c.args.place + 1 - (c.args.places - length ds) ≡ k + 1 = omega (arith, c.requires.within, c.requires.few, c.if-place-left.false) in
    let within : k < length ds = omega (arith, c.requires.within, c.requires.few, c.if-place-left.false) in
    ap (λ n. number_of (take n ds)) next ∙ ap number_of (take_more ds k _ within) ∙ digit_behind 0 (take k ds) _
