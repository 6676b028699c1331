use Rattle.std.proofs.Common.{Some, None, sym, ap, ◌∙◌, arith}
use Rattle.std.proofs.lemmas.Str.Pattern.{strip_suffix_char}
use Rattle.veri_read.specs.Made.{without_mark}
use Rattle.veri_read.proofs.Marks.{mark_taken, mark_missing}
use Rattle.veri_read.proofs.net.without_mark.Goals as goal

pub returns-in-Some : goal.returns-in-Some
returns-in-Some c = sym (ap without_mark (strip_suffix_char 95 c.args.name.now (Some c.in-Some.front) c.in-Some.ensures.cases (omega arith)) ∙ mark_taken c.in-Some.front.now)

pub returns-in-None : goal.returns-in-None
returns-in-None c = sym (mark_missing c.args.name.now (strip_suffix_char 95 c.args.name.now None c.in-None.ensures.cases (omega arith)))
