-- Lines, which end at line feeds.
use Rattle.std.specs.Prelude.{ℕ, ◌+◌, ◌-◌, ◌==◌, nat_eq, Bool, not, List, [], ◌∷◌, length, take, drop, count_by, if◌then◌else◌}
use Rattle.std.specs.List.{prefix_len, suffix_len, starts_with}
use Rattle.wkt_explain.specs.Characters.{chars}

-- the bytes of a file from one place up to another
abbrev pub text_in : List ℕ → ℕ → ℕ → List ℕ
text_in file start end = drop start (take end file)

-- the byte ends no line
abbrev pub goes_on : ℕ → Bool
goes_on b = not (b == 10)

-- the bytes before the first line feed, or all
abbrev pub first_line : List ℕ → List ℕ
first_line bytes = take (prefix_len goes_on bytes) bytes

-- the bytes after the last line feed, or all
abbrev pub last_line : List ℕ → List ℕ
last_line bytes = drop (length bytes - suffix_len goes_on bytes) bytes

-- a line without the carriage return at its end
abbrev pub is_return : ℕ → Bool
is_return b = b == 13

unfoldable pub without_return : List ℕ → List ℕ
without_return [] = []
without_return (b ∷ []) = if is_return b then [] else b ∷ []
without_return (b ∷ c ∷ bs) = b ∷ without_return (c ∷ bs)

-- the bytes begin with a byte order mark
abbrev pub mark : List ℕ
mark = 239 ∷ 187 ∷ 191 ∷ []

abbrev pub begins_mark : List ℕ → Bool
begins_mark bytes = starts_with nat_eq bytes mark

-- without a byte order mark at the front, which is in no column
abbrev pub behind_mark : List ℕ → List ℕ
behind_mark bytes = if begins_mark bytes then drop 3 bytes else bytes

-- how many line feeds they have
abbrev pub feeds : List ℕ → ℕ
feeds bytes = count_by (λ b. b == 10) bytes

-- the number of the line that these bytes lead to, from 1
abbrev pub line_number : List ℕ → ℕ
line_number bytes = feeds bytes + 1

-- the column that they lead to, from 1
abbrev pub column : List ℕ → ℕ
column bytes = length (chars (last_line bytes)) + 1
