use Rattle.lola_scan.proofs.Reading.{one_reading_of}
use Rattle.lola_scan.proofs.scanner.one_reading.Goals as goal

pub returns : goal.returns
returns c = one_reading_of
