use Rattle.std.proofs.Common.{◌++◌, ◌≤◌, length, ap, sym, ◌∙◌, append-nil, rules}
use Rattle.lola_lower.proofs.Given.{no_port}
use Rattle.lola_lower.proofs.net.push_port.Goals as goal

pub returns-in-None : goal.returns-in-None
returns-in-None c =
    let past : length c.args.flat.now.signals ≤ c.args.port = search rules in
    sym (ap (λ l. c.args.names.now.items ++ l) (no_port c.args.flat.now.signals c.args.port past) ∙ append-nil c.args.names.now.items)
