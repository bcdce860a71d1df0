-- The lines of a report are written one by one.
use Rattle.std.proofs.Common.{◌≡◌, ℕ, List, [], ◌∷◌, ◌++◌, append_assoc, append-nil, map, length, arith, refl, sym, ap, ◌∙◌, subst}
use Rattle.csv.specs.Writing.{row_text, default_writer}
use Rattle.reg_report.specs.declared.row.Row.{Row}
use Rattle.reg_report.specs.Seen.{row_seen}
use Rattle.reg_report.specs.Lines.{AreLines, IsSheet, IsEntryLine, entries_header}

-- `text`, followed by the lines of the remaining rows, is the report of all rows
abbrev pub Completes : List Row → List Row → List ℕ → Type 0
Completes all rest text = (more : List ℕ) → AreLines IsEntryLine (map row_seen rest) more → IsSheet entries_header IsEntryLine (map row_seen all) (text ++ more)

pub line_more : (all rest others : List Row) (row : Row) (old new : List ℕ) (fields : List (List ℕ)) → rest ≡ row ∷ others → IsEntryLine (row_seen row) fields → new ≡ old ++ row_text default_writer fields → Completes all rest old → Completes all others new
line_more all rest others row old new fields e is h done more lines =
    subst (IsSheet entries_header IsEntryLine (map row_seen all)) (sym (append_assoc old (row_text default_writer fields) more) ∙ ap (λ t. t ++ more) (sym h))
    (done (row_text default_writer fields ++ more) (subst (λ l. AreLines IsEntryLine (map row_seen l) (row_text default_writer fields ++ more)) (sym e) (fields, more, is, lines, refl)))

pub lines_done : (all rest : List Row) (text out : List ℕ) → length rest ≡ 0 → out ≡ text → Completes all rest text → IsSheet entries_header IsEntryLine (map row_seen all) out
lines_done all [] text out e h done = subst (IsSheet entries_header IsEntryLine (map row_seen all)) (append-nil text ∙ sym h) (done [] refl)
lines_done all (row ∷ rest) text out e h done = absurd (omega arith)
