use Rattle.reg_import.proofs.ReadingLemmas
use Rattle.reg_import.proofs.laws.one_reading.Goals as goal

pub returns : goal.returns
returns c = ReadingLemmas.one_reading
