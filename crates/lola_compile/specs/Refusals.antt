-- What is said of a text of which no source is read.
use Rattle.lola_source.specs.declared.fault.SourceError.{SourceError}
use Rattle.lola_source.specs.declared.fault.SourceError.TheVariants as source
use Rattle.lola_compile.specs.declared.compiling.CompileError.{CompileError}
use Rattle.lola_compile.specs.declared.compiling.CompileError.TheVariants as compiling

abbrev pub source_error : SourceError → CompileError
source_error (source.Refused refusal) = compiling.Refused refusal
source_error source.Memory = compiling.Memory
