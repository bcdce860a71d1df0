-- The table of some records, the first of which names the columns.
use Rattle.std.specs.Prelude.{ℕ, Bool, true, false, List, [], ◌∷◌, ◌++◌, map, codes, max, min, if◌then◌else◌}
use Rattle.std.specs.List.{flat_map, fold}
use Rattle.std.specs.Str.{bytes_eq}
use Rattle.std.specs.Bool.{beq}
use Rattle.csv_table.specs.Marks.{marked}
use Rattle.csv_table.specs.Cells.{width, cell, without_end}
use Rattle.csv_table.specs.declared.columns.Column.{Column}

-- a column that the header does not name
abbrev pub unnamed : Column
unnamed = record { width = 0; is_entry = false }

-- a column of this name
abbrev pub named : List ℕ → Column
named name = record { width = 0; is_entry = bytes_eq name (codes "entry") }

-- no column is padded beyond this width
abbrev pub widest : ℕ
widest = 60

-- the column, as wide as the field at least, up to that width
abbrev pub fitted : List ℕ → Column → Column
fitted field column = record column { width = max column.width (min (width (marked field)) widest) }

-- the first of the columns, and the others
abbrev pub first : List Column → Column
first [] = unnamed
first (c ∷ cs) = c

abbrev pub others : List Column → List Column
others [] = []
others (c ∷ cs) = cs

-- the columns, each as wide as its field at least, up to that width
abbrev pub widened : List (List ℕ) → List Column → List Column
widened [] columns = columns
widened (f ∷ fs) columns = fitted f (first columns) ∷ widened fs (others columns)

-- the names of the columns
abbrev pub header : List (List (List ℕ)) → List (List ℕ)
header [] = []
header (names ∷ records) = names

-- each column is as wide as its widest field, up to that width
abbrev pub columns : List (List (List ℕ)) → List Column
columns records = fold (λ cs fields. widened fields cs) (map named (header records)) records

-- the field, if its column is named `entry` or if it is not
abbrev pub cell_if : Bool → List ℕ → Column → List ℕ
cell_if is_entry field column = if beq column.is_entry is_entry then cell field column.width else []

-- the fields of those columns
abbrev pub cells : Bool → List (List ℕ) → List Column → List ℕ
cells is_entry [] columns = []
cells is_entry (f ∷ fs) columns = cell_if is_entry f (first columns) ++ cells is_entry fs (others columns)

-- a line, in which the columns named `entry` come last
abbrev pub line : List Column → List (List ℕ) → List ℕ
line columns fields = without_end (cells false fields columns ++ cells true fields columns) ++ (10 ∷ [])

abbrev pub lines : List Column → List (List (List ℕ)) → List ℕ
lines columns records = flat_map (line columns) records

abbrev pub table : List (List (List ℕ)) → List ℕ
table records = lines (columns records) records
