use Rattle.std.proofs.Common.{◌≡◌, ◌++◌, ◌∷◌, [], Some, rules}
use Rattle.csv.specs.Records.{fields_of}
use Rattle.csv_table.specs.Reading.{given, pair}
use Rattle.csv_table.proofs.NamesReadLemmas.{read_more}
use Rattle.csv_table.proofs.offices.reading.names_of.Goals as goal

pub loop-row-preserved : goal.loop-row-preserved
loop-row-preserved c =
    let g : Some (pair c.in-Some.name) ≡ given (fields_of c.row-item.result) = search rules in
    let m : c.push.new.self.items ≡ c.loop-row.names.items ++ c.in-Some.name ∷ [] = search rules in
    read_more c.args.rows.now c.row-item.result c.loop-row.row-index c.loop-row.names.items c.push.new.self.items c.in-Some.name c.row-item.is c.loop-row-test.true g m c.loop-row.invariant
