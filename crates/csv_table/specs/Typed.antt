-- Words in which the name of an office stands in the place of its UUID, as tables show ids.
use Rattle.std.specs.Prelude.{◌==◌, ◌&&◌, Bool, true, false, ℕ, List, [], ◌∷◌, ◌++◌, Option, length, take, drop, option_map}
use Rattle.std.specs.Char.{is_ascii_digit}
use Rattle.std.specs.List.{find, list_all}
use Rattle.std.specs.Str.{bytes_eq}
use Rattle.csv_table.specs.declared.offices.names.Name.{Name}
use Rattle.csv_table.specs.Names.{stands}

-- a colon, and digits
abbrev pub is_count : List ℕ → Bool
is_count [] = false
is_count (b ∷ bs) = (b == 58) && list_all is_ascii_digit bs

-- whether a word is the name of this row with a colon and digits, and the name stands for its office
abbrev pub names_office : List Name → List ℕ → Name → Bool
names_office names word n = (bytes_eq (take (length n.name.items) word) n.name.items && is_count (drop (length n.name.items) word)) && stands names n

-- the word with the UUID in the place of the name
abbrev pub typed : List Name → List ℕ → Option (List ℕ)
typed names word = option_map (λ n. n.office.items ++ drop (length n.name.items) word) (find (names_office names word) names)
