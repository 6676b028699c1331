use Rattle.std.proofs.lemmas.Str.{IsUtf8-from_ascii}
use Rattle.veri_read.proofs.Ascii.{names_are_ascii}
use Rattle.veri_read.proofs.token.name_text.Goals as goal

-- what is spelled in ASCII is UTF-8
pub returns-in-Err : goal.returns-in-Err
returns-in-Err c = absurd (c.in-Err.ensures.cases.0 (IsUtf8-from_ascii _ (names_are_ascii _ c.requires)))
