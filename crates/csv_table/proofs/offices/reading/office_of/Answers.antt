use Rattle.uuid.specs.Text.{parsed}
use Rattle.csv_table.proofs.NamesReadLemmas.{unparsed}
use Rattle.csv_table.proofs.offices.reading.office_of.Goals as goal

pub returns-in-Err : goal.returns-in-Err
returns-in-Err c = unparsed (parsed c.args.text.now) c.in-Err.ensures.ok
