-- Facts on rows of the program, one row after another.
use Rattle.std.proofs.Common.{◌≡◌, ℕ, ◌+◌, ◌<◌, ◌≤◌, List, ◌∷◌, [], ◌++◌, map, length, get_or, take, refl, sym, ap, ◌∙◌, subst}
use Rattle.std.proofs.lemmas.List.{take_all, map_more}
use Rattle.reg_op.specs.Rows.{Row}
use Rattle.reg_report.specs.Seen.{row_seen}
use Rattle.reg_report.specs.declared.row.Row.{Row as MadeRow}

-- F holds of the first k rows and one more
pub rows_more : (F : List Row → Type 0) (rows : List MadeRow) (k : ℕ) (row : MadeRow) → k < length rows → row ≡ get_or rows k row → F (map row_seen (take k rows) ++ row_seen row ∷ []) → F (map row_seen (take (k + 1) rows))
rows_more F rows k row h at f = subst F ((λ j. map row_seen (take k rows) ++ row_seen (at j) ∷ []) ∙ sym (map_more row_seen rows k row h)) f

pub rows_all : (F : List Row → Type 0) (rows : List MadeRow) (k : ℕ) → length rows ≤ k → F (map row_seen (take k rows)) → F (map row_seen rows)
rows_all F rows k h f = subst (λ l. F (map row_seen l)) (take_all k rows h) f
