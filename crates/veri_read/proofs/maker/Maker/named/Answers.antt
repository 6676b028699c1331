use Rattle.std.proofs.Common.{◌≤◌, ◌/◌, length, sym, ap, subst}
use Rattle.veri_read.specs.Held.{listed}
use Rattle.veri_read.specs.Made.{literal_or}
use Rattle.veri_read.proofs.Sound.{within_found}
use Rattle.veri_read.proofs.maker.Maker.named.Goals as goal

pub returns-in-Some-clause-known : goal.returns-in-Some-clause-known
returns-in-Some-clause-known c =
    let n = length c.args.self.now.gates in
    subst (λ l. l / 2 ≤ n) (sym (ap literal_or c.in-Some.ensures)) (within_found n (listed c.args.self.now.literals) c.args.name.now c.requires.known)
