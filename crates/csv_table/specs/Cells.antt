-- Fields in columns.
use Rattle.std.specs.Prelude.{ℕ, ◌-◌, false, List, ◌++◌, chars, length, take, replicate}
use Rattle.std.specs.Char.{is_ascii_whitespace}
use Rattle.std.specs.List.{suffix_len}
use Rattle.unicode_width.specs.Width.{str_width}
use Rattle.csv_table.specs.Marks.{marked}

-- how many columns of a terminal a text takes
abbrev pub width : List ℕ → ℕ
width text = str_width false (chars text)

abbrev pub blanks : ℕ → List ℕ
blanks n = replicate n 32

-- a field as it is shown, blanks up to this many columns, and two more
abbrev pub cell : List ℕ → ℕ → List ℕ
cell field columns = marked field ++ blanks (columns - width (marked field)) ++ blanks 2

-- a line without the blanks at its end
abbrev pub without_end : List ℕ → List ℕ
without_end line = take (length line - suffix_len is_ascii_whitespace line) line
