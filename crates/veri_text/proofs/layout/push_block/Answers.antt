use Rattle.std.proofs.Common.{append_assoc}
use Rattle.veri_text.proofs.layout.push_block.Goals as goal

pub returns : goal.returns
returns c =
    rw (c.in_ok-extend_from_slice-4.ensures.items, c.in_ok-push_nexts.ensures, c.in_ok-extend_from_slice-3.ensures.items, c.in_ok-extend_from_slice-2.ensures.items, c.as_bytes.ensures.value, c.text.ensures, c.in_ok-extend_from_slice.ensures.items)
    (simp append_assoc)
