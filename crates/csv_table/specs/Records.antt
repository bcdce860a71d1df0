-- Records that are read one after another.
use Rattle.std.specs.Prelude.{◌≡◌, ◌<◌, ℕ, List, Some}
use Rattle.std.specs.Borrow.{Bor}
use Rattle.csv.specs.Reading.{Reached, Ready, AreRecords, default_config, source_of, strip_bom}
use Rattle.csv.specs.declared.iter.ByteRecordsIntoIter.{ByteRecordsIntoIter}
use Rattle.csv.specs.declared.parser.State.TheVariants as st
use Rattle.csv.specs.declared.reader.Trim.TheVariants as trim

-- these records of the text have been read, and the rest is still to come
abbrev pub HasRead : List ℕ → List (List (List ℕ)) → ByteRecordsIntoIter (Bor (List ℕ)) → Type 0
HasRead text records it = (it.rdr.trim ≡ trim.None) × Ready it.rdr × (0 < it.left) × (it.rdr.config ≡ default_config)
    × (y : List ℕ) × (source_of (λ s. Some s.now) it.rdr ≡ Some y)
    × Reached default_config st.StartRecord (strip_bom text) records it.rdr.state y

-- P holds for all records of the rows
abbrev pub ForRecords : List ℕ → (List (List (List ℕ)) → Type 0) → Type 0
ForRecords rows P = (records : List (List (List ℕ))) × AreRecords default_config st.StartRecord (strip_bom rows) records × P records
