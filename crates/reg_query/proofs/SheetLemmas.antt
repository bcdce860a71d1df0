-- The lines of a comparison, one at a time.
use Rattle.std.proofs.Common.{◌≡◌, ℕ, List, [], ◌∷◌, ◌++◌, append_assoc, append-nil, ◌+◌, ◌<◌, ◌≤◌, get_or, drop, length-drop, map, length, arith, refl, sym, ap, ◌∙◌, subst}
use Rattle.std.proofs.lemmas.List.{at_drop_more}
use Rattle.csv.specs.Writing.{row_text, default_writer}
use Rattle.reg_report.specs.Lines.{AreLines, IsSheet}
use Rattle.reg_query.specs.declared.diff.change.SignedRow.{SignedRow}
use Rattle.reg_query.specs.ChangesSeen.{change_seen}
use Rattle.reg_query.specs.DiffLines.{changes_header, IsChangeLine}

-- `text` followed by any lines for `rest` is a header with lines for `all`
abbrev pub Completes : List SignedRow → List SignedRow → List ℕ → Type 0
Completes all rest text = (more : List ℕ) → AreLines IsChangeLine (map change_seen rest) more → IsSheet changes_header IsChangeLine (map change_seen all) (text ++ more)

line_more : (all rest others : List SignedRow) (change : SignedRow) (old new : List ℕ) (fields : List (List ℕ)) → rest ≡ change ∷ others → IsChangeLine (change_seen change) fields → new ≡ old ++ row_text default_writer fields → Completes all rest old → Completes all others new
line_more all rest others change old new fields e is h done more lines =
    subst (IsSheet changes_header IsChangeLine (map change_seen all)) (sym (append_assoc old (row_text default_writer fields) more) ∙ ap (λ t. t ++ more) (sym h))
    (done (row_text default_writer fields ++ more) (subst (λ l. AreLines IsChangeLine (map change_seen l) (row_text default_writer fields ++ more)) (sym e) (fields, more, is, lines, refl)))

lines_done : (all rest : List SignedRow) (text out : List ℕ) → length rest ≡ 0 → out ≡ text → Completes all rest text → IsSheet changes_header IsChangeLine (map change_seen all) out
lines_done all [] text out e h done = subst (IsSheet changes_header IsChangeLine (map change_seen all)) (append-nil text ∙ sym h) (done [] refl)
lines_done all (change ∷ rest) text out e h done = absurd (omega arith)

pub next_line : (all : List SignedRow) (i : ℕ) (d : SignedRow) (old new : List ℕ) (fields : List (List ℕ)) → i < length all → IsChangeLine (change_seen (get_or all i d)) fields → new ≡ old ++ row_text default_writer fields
    → Completes all (drop i all) old → Completes all (drop (i + 1) all) new
next_line all i d old new fields within is h done = line_more all (drop i all) (drop (i + 1) all) (get_or all i d) old new fields (at_drop_more (λ xs. xs) all i d within) is h done

pub last_line : (all : List SignedRow) (i : ℕ) (text out : List ℕ) → length all ≤ i → out ≡ text → Completes all (drop i all) text → IsSheet changes_header IsChangeLine (map change_seen all) out
last_line all i text out past e done = lines_done all (drop i all) text out (omega (arith, length-drop i all, past)) e done
