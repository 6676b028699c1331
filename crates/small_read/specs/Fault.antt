-- What a fault of an expression or of a type is to a table: want of memory stays that.
use Rattle.lola_parse.specs.declared.fault.Fault.{Fault}
use Rattle.lola_parse.specs.declared.fault.Fault.TheVariants as parse
use Rattle.small_read.specs.declared.fault.TableFault.{TableFault}
use Rattle.small_read.specs.declared.fault.TableFault.TheVariants as table

abbrev pub fault_of : Fault → TableFault
fault_of (parse.Syntax left) = table.NotBuilt
fault_of (parse.Long left) = table.NotBuilt
fault_of parse.Memory = table.Memory
