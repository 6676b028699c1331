use Rattle.std.proofs.Common.{refl}
use Rattle.lola_app.specs.Serve.{wanting}
use Rattle.lola_app.proofs.Appends.{front_appended}
use Rattle.lola_app.proofs.command.print.Goals as goal

pub returns : goal.returns
returns g c = wanting (front_appended _ _ _ _ _ _ c.write_text-in-Err.ensures) refl
