-- The numbers of the statuses.
use Rattle.std.specs.Prelude.{ℕ}
use Rattle.lola_app.specs.declared.status.Status.{Status}
use Rattle.lola_app.specs.declared.status.Status.TheVariants as status

-- the statuses in their order, from 0
abbrev pub number_of : Status → ℕ
number_of status.Ok = 0
number_of status.No = 1
number_of status.BadWords = 2
number_of status.SourceFault = 3
number_of status.TableFault = 4
number_of status.TextFault = 5
number_of status.ReadFault = 6
number_of status.WriteFault = 7
number_of status.Limit = 8
number_of status.Memory = 9
number_of status.Refuted = 10
number_of status.Unknown = 11
