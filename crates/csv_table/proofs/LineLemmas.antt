-- The lines of the records so far.
use Rattle.std.proofs.Common.{List, ℕ, ◌≡◌, ◌∙◌, ◌++◌, ◌∷◌, [], append_assoc, append-nil, sym, ap}
use Rattle.std.proofs.lemmas.List.Concat.{flat_map-append}
use Rattle.csv_table.specs.declared.columns.Column.{Column}
use Rattle.csv_table.specs.Table.{line, lines}

lines_more : (columns : List Column) (records : List (List (List ℕ))) (row : List (List ℕ)) → lines columns records ++ line columns row ≡ lines columns (records ++ row ∷ [])
lines_more columns records row =
    sym (flat_map-append (line columns) records (row ∷ []) ∙ ap (λ (l : List ℕ). lines columns records ++ l) (append-nil (line columns row)))

-- a text with one more line
pub one_line_more : (columns : List Column) (records : List (List (List ℕ))) (row : List (List ℕ)) (before old new : List ℕ) → old ≡ before ++ lines columns records
    → new ≡ old ++ line columns row → new ≡ before ++ lines columns (records ++ row ∷ [])
one_line_more columns records row before old new so is =
    is ∙ ap (λ (l : List ℕ). l ++ line columns row) so ∙ append_assoc before (lines columns records) (line columns row) ∙ ap (λ (l : List ℕ). before ++ l) (lines_more columns records row)
