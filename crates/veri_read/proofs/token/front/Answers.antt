use Rattle.std.proofs.Common.{ℕ, take, ◌∙◌, ap}
use Rattle.std.specs.List.{list_all}
use Rattle.veri_read.specs.Tokens.{is_name_byte}
use Rattle.veri_read.proofs.Runs.{run_is}
use Rattle.veri_read.proofs.token.front.Goals as goal

-- the bytes of a run are those of names
pub name_text-requires : goal.name_text-requires
name_text-requires c =
    ap (list_all is_name_byte) (c.split_at.ensures.front ∙ ap (λ (n : ℕ). take n c.args.text.now) c.name_length-length.ensures.long) ∙ run_is is_name_byte c.args.text.now
