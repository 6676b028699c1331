use Rattle.std.proofs.Common.{Some, ap}
use Rattle.std.proofs.lemmas.Bool.{ne_eqb}
use Rattle.lola_width.proofs.Capped.{capped_product}
use Rattle.lola_width.proofs.widths.repeated_width.Goals as goal

pub returns-else-times-eq0 : goal.returns-else-times-eq0
returns-else-times-eq0 c = let p = capped_product c.in-Some-times.times c.in-Some.width in
    rw (c.in-Some.is, c.in-Some-times.is, ne_eqb c.in-Some-times.times 0 c.if-times-eq0.false, c.min.ensures, c.min-times.ensures) (ap Some p)
