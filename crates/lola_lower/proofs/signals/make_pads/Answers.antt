use Rattle.std.proofs.Common.{◌≡◌, ◌<◌, ◌^◌, length, ap, sym, ◌∙◌, rules, arith}
use Rattle.lola_lower.proofs.Steps.{pads_count}
use Rattle.lola_lower.proofs.signals.make_pads.Goals as goal

pub overflow_cast-items : goal.overflow_cast-items
overflow_cast-items c =
    let few = c.are_few.ensures in
    let grown = ap length c.in-Ok-add_pads.ensures.ok in
    let count = pads_count c.args.gates.now c.as_str.result.now c.if-items-lt1.release c.items-3.result.now in
    let same : length c.items-4.result.now ≡ length c.items-3.result.now = ap length (c.items-4.ensures ∙ sym c.items-3.ensures) in
    let small : length c.items-4.result.now < 2 ^ 31 = omega arith in
    search (rules, small)

pub bits_at-requires : goal.bits_at-requires
bits_at-requires c =
    let few = c.are_few.ensures in
    let grown = ap length c.in-Ok-add_pads.ensures.ok in
    let count = pads_count c.args.gates.now c.as_str.result.now c.if-items-lt1.release c.items-3.result.now in
    let same : length c.items-4.result.now ≡ length c.items-3.result.now = ap length (c.items-4.ensures ∙ sym c.items-3.ensures) in
    let first = c.node_count-first.ensures.count in
    record { few = omega arith }
