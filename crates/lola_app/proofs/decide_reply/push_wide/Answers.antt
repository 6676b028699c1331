use Rattle.std.proofs.Common.{ℕ, List, ◌++◌, ap, ◌∙◌}
use Rattle.lola_app.proofs.Appends.{four_pieces}
use Rattle.lola_app.proofs.decide_reply.push_wide.Goals as goal

pub returns : goal.returns
returns c = four_pieces _ _ _ _ _ _ _ _ _ c.in_ok-extend_from_slice.ensures.items (c.in_ok-extend_from_slice-2.ensures.items ∙ ap (λ (x : List ℕ). c.extend_from_slice.new.self.items ++ x) c.as_bytes.ensures.value) c.in_ok-push_number.ensures c.in_ok-extend_from_slice-3.ensures.items
