use Rattle.std.proofs.lemmas.Result.{err_from_is_err_and}
use Rattle.lola_scan.specs.Bytes.{is_hex_digit}
use Rattle.lola_scan.proofs.Runs.{run_passes}
use Rattle.lola_scan.proofs.Numbers.{width_passes}
use Rattle.lola_scan.proofs.Steps.{parts, number_read, number_fails}
use Rattle.lola_scan.proofs.front.number.Goals as goal

pub number_kind-requires-clause-digits : goal.number_kind-requires-clause-digits
number_kind-requires-clause-digits c = rw (c.split_at.ensures.front, c.run_length.ensures.length) (run_passes is_hex_digit c.args.text.now)

pub number_kind-requires-clause-width : goal.number_kind-requires-clause-width
number_kind-requires-clause-width c = rw c.width_digits-width.ensures (width_passes c.split_at-2.result.1.now)

pub returns-in_err-kind : goal.returns-in_err-kind
returns-in_err-kind c =
    let e = err_from_is_err_and c.from_residual.result c.from_residual.ensures.1 in
    let p = parts c.args.text.now c.split_at.result.0.now c.split_at.result.1.now c.split_at-2.result.1.now c.run_length.result _ _ c.requires.begins
    c.run_length.ensures.length c.split_at.ensures.front c.split_at.ensures.back c.is_hexadecimal-hexadecimal.ensures
    (rw c.base_length-base.ensures at c.split_at-2.ensures.back) c.width_digits-width.ensures in
    rw (e.1, e.2) (number_fails c.args.at c.args.text.now _ _ _ c.in_err-kind.field-0.0 p c.in_err-kind.ensures)

pub returns : goal.returns
returns c =
    let p = (parts c.args.text.now c.split_at.result.0.now c.split_at.result.1.now c.split_at-2.result.1.now c.run_length.result _ _ c.requires.begins c.run_length.ensures.length
    c.split_at.ensures.front c.split_at.ensures.back c.is_hexadecimal-hexadecimal.ensures (rw c.base_length-base.ensures at c.split_at-2.ensures.back) c.width_digits-width.ensures) in
    rw (c.base_length-base.ensures, c.width_length.ensures) (number_read c.args.at c.args.text.now _ _ _ c.in_ok-kind.kind p c.in_ok-kind.ensures)
