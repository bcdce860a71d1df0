-- The names that a file of CSV gives: a header, and a row for each office.
use Rattle.std.specs.Prelude.{◌≡◌, ◌==◌, ◌+◌, ◌&&◌, Bool, true, false, ℕ, List, [], ◌∷◌, Option, Some, None, codes, length, map, option_map, is_some, if◌then◌else◌}
use Rattle.std.specs.Str.{bytes_eq}
use Rattle.csv.specs.Reading.{AreRecords, default_config, strip_bom}
use Rattle.csv.specs.Records.{field_at}
use Rattle.csv.specs.declared.parser.State.TheVariants as st
use Rattle.uuid.specs.Text.{parsed, hyphenated_text, lower}
use Rattle.csv_table.specs.declared.offices.names.Name.{Name}
use Rattle.csv_table.specs.declared.offices.fault.NamesFault.{NamesFault}
use Rattle.csv_table.specs.declared.offices.fault.NamesFault.TheVariants as fault

-- whether a row has this field at this place
abbrev pub is_word : List ℕ → Option (List ℕ) → Bool
is_word word None = false
is_word word (Some field) = bytes_eq field word

abbrev pub is_header : List (List ℕ) → Bool
is_header fields = (length fields == 2) && (is_word (codes "office") (field_at fields 0) && is_word (codes "name") (field_at fields 1))

-- the UUID, as it is printed, and the name
abbrev pub pair_of : Option (List ℕ) → Option (List ℕ) → Option (List ℕ × List ℕ)
pair_of None name = None
pair_of (Some office) None = None
pair_of (Some office) (Some name) = option_map (λ u. (hyphenated_text lower u, name)) (parsed office)

-- what a row gives, if it has a UUID and a name
abbrev pub given : List (List ℕ) → Option (List ℕ × List ℕ)
given fields = if length fields == 2 then pair_of (field_at fields 0) (field_at fields 1) else None

abbrev pub pair : Name → List ℕ × List ℕ
pair n = (n.office.items, n.name.items)

-- each row gives a name
abbrev pub Gives : List (List (List ℕ)) → List Name → Type 0
Gives rows names = map given rows ≡ map (λ n. Some (pair n)) names

-- the number of the first row that gives no name, where the first row has this number
abbrev pub first_bad : ℕ → List (List (List ℕ)) → Option ℕ
first_bad number [] = None
first_bad number (row ∷ rows) = if is_some (given row) then first_bad (number + 1) rows else Some number

-- the header, and the rows behind it
abbrev pub has_header : List (List (List ℕ)) → Bool
has_header [] = false
has_header (header ∷ rows) = is_header header

abbrev pub behind : List (List (List ℕ)) → List (List (List ℕ))
behind [] = []
behind (header ∷ rows) = rows

-- these are the records of a text
abbrev pub Have : List ℕ → List (List (List ℕ)) → Type 0
Have text records = AreRecords default_config st.StartRecord (strip_bom text) records

-- the names that a text gives
abbrev pub AreNamesOf : List ℕ → List Name → Type 0
AreNamesOf text names = (records : List (List (List ℕ))) × Have text records × (has_header records ≡ true) × Gives (behind records) names

-- what is wrong with a text
abbrev pub IsNoNames : List ℕ → NamesFault → Type 0
IsNoNames text fault.BadHeader = (records : List (List (List ℕ))) × Have text records × (has_header records ≡ false)
IsNoNames text (fault.BadRow number) = (records : List (List (List ℕ))) × Have text records × (has_header records ≡ true) × (first_bad 2 (behind records) ≡ Some number)
IsNoNames text fault.Memory = Unit {0}

-- the same of the rows behind the header
abbrev pub AreBad : List (List (List ℕ)) → NamesFault → Type 0
AreBad rows fault.BadHeader = ⊥
AreBad rows (fault.BadRow number) = first_bad 2 rows ≡ Some number
AreBad rows fault.Memory = Unit {0}
