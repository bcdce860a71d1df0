-- Texts in which names stand in the place of the UUIDs of offices.
use Rattle.std.specs.Prelude.{◌≡◌, ◌==◌, ◌-◌, ◌&&◌, ◌||◌, Bool, true, ℕ, zero, suc, List, [], ◌∷◌, ◌++◌, Option, Some, None, length, map, take, drop, if◌then◌else◌}
use Rattle.std.specs.List.{find, flat_map}
use Rattle.std.specs.Str.{bytes_eq}
use Rattle.csv.specs.Reading.{AreRecords, default_config, strip_bom}
use Rattle.csv.specs.Writing.{default_writer, row_text}
use Rattle.csv.specs.declared.parser.State.TheVariants as st
use Rattle.csv_table.specs.declared.offices.names.Name.{Name}
use Rattle.csv_table.specs.Names.{stands}

-- a blank, or the end of a line: a word begins after it
abbrev pub is_gap : ℕ → Bool
is_gap b = (b == 32) || (b == 10)

-- what can follow the UUID of an office: one of these, a comma or a colon, or nothing
abbrev pub ends : List ℕ → Bool
ends [] = true
ends (b ∷ bs) = is_gap b || ((b == 44) || (b == 58))

-- whether a text begins with the UUID of this row, and its name stands for it
abbrev pub begins : List Name → List ℕ → Name → Bool
begins names text n = (bytes_eq (take (length n.office.items) text) n.office.items && ends (drop (length n.office.items) text)) && stands names n

-- the name at the beginning of a text, if a word begins there
abbrev pub found : List Name → List ℕ → Bool → Option Name
found names text starts = if starts then find (begins names text) names else None

-- what stands in the place of the first byte, and how many bytes after it are left out; with `keeps`, the UUID follows in parentheses
abbrev pub put_name : Bool → List ℕ → List ℕ → List ℕ
put_name keeps name office = name ++ (if keeps then (32 ∷ 40 ∷ []) ++ office ++ (41 ∷ []) else [])

abbrev pub put : Bool → Option Name → ℕ → List ℕ
put keeps None b = b ∷ []
put keeps (Some n) b = put_name keeps n.name.items n.office.items

abbrev pub left_out : Option Name → ℕ
left_out None = 0
left_out (Some n) = length n.office.items - 1

-- a text with names, of which so many bytes are left out; `starts` says whether a word begins
unfoldable pub shown_from : List ℕ → ℕ → Bool → Bool → List Name → List ℕ
shown_from [] skip starts keeps names = []
shown_from (b ∷ bs) zero starts keeps names =
    put keeps (found names (b ∷ bs) starts) b ++ shown_from bs (left_out (found names (b ∷ bs) starts)) (is_gap b) keeps names
shown_from (b ∷ bs) (suc skip) starts keeps names = shown_from bs skip (is_gap b) keeps names

-- a text with names in the place of the UUIDs of offices
abbrev pub shown : Bool → List Name → List ℕ → List ℕ
shown keeps names text = shown_from text 0 true keeps names

-- the rows of some records, with names in each field
abbrev pub sheet : Bool → List Name → List (List (List ℕ)) → List ℕ
sheet keeps names records = flat_map (λ fields. row_text default_writer (map (shown keeps names) fields)) records

-- the rows of CSV with names in each field
abbrev pub AreShown : Bool → List Name → List ℕ → List ℕ → Type 0
AreShown keeps names rows text = (records : List (List (List ℕ))) × AreRecords default_config st.StartRecord (strip_bom rows) records
    × (text ≡ sheet keeps names records)
