use Rattle.lrat_text.proofs.Written.{cert_written}
use Rattle.lrat_text.proofs.writer.push_cert.Goals as goal

pub returns : goal.returns
returns c =
    rw (c.in_ok-push-2.ensures.items, c.in_ok-push.ensures, c.in_ok-extend_from_slice-2.ensures.items, c.as_slice-2.ensures, c.in_ok-push_parts.ensures, c.in_ok-extend_from_slice.ensures.items, c.as_slice.ensures)
    (cert_written c.args.out.now.items c.args.names.now c.args.proofs.now c.requires)
