use Rattle.std.proofs.lemmas.Str.{IsUtf8-from_ascii}
use Rattle.lola_parse.proofs.cursor.text_of.Goals as goal

-- what is spelled in ASCII is UTF-8
pub returns-in-Err : goal.returns-in-Err
returns-in-Err c = absurd (c.in-Err.ensures.cases.0 (IsUtf8-from_ascii _ c.requires.ascii))
