use Rattle.veri_read.proofs.Views.{placed_on, placed_up}
use Rattle.veri_read.proofs.reader.Reader.move_on.Goals as goal

pub returns-in-Ok : goal.returns-in-Ok
returns-in-Ok c = placed_on _ _ _ _ _ c.in-Ok.ensures

pub returns-in-Err : goal.returns-in-Err
returns-in-Err c = placed_up _ _ _ _ _ c.in-Err.ensures
