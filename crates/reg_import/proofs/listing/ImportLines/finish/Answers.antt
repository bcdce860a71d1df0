use Rattle.std.proofs.Common.{List, ℕ, map, filter, subst, sym, ap, ◌∙◌, refl}
use Rattle.std.specs.Borrow.{Bor}
use Rattle.reg_op.specs.Rows.{Row as OneRow}
use Rattle.reg_report.specs.declared.row.Row.{Row}
use Rattle.std.specs.String.{string_bytes}
use Rattle.reg_report.specs.Seen.{row_seen}
use Rattle.csv.specs.Writing.{row_text, default_writer}
use Rattle.reg_import.specs.Lines.{lines_of, is_shown, import_header, IsImportLine, IsGoneLine}
use Rattle.reg_import.specs.Listing.{PacksLines}
use Rattle.reg_import.specs.Readings.{readings}
use Rattle.reg_import.proofs.LineLemmas.{whole_listing}
use Rattle.reg_import.proofs.ListedLemmas.{listed_lines}
use Rattle.reg_import.proofs.listing.ImportLines.finish.Goals as goal

pub returns : goal.returns
returns c = λ texts ts h.
    let w = c.in_ok-settled.settled in
    let now = c.in_ok-settled.ensures.listed texts ts h in
    let l = c.args.listing.now in
    let rows = c.into_inner-rows.result in
    let lines = subst (λ (r : List ℕ). PacksLines (IsImportLine (map string_bytes l.names.now)) (filter (is_shown l.changes) (lines_of texts ts)) (row_text default_writer import_header) r) (sym c.into_inner-rows.ensures)
    (listed_lines l texts ts w c.in_ok-settled.ensures.texts c.in_ok-settled.ensures.told now) in
    whole_listing l c.args.register.now.ops texts ts (map (λ (r : Bor Row). row_seen r.now) c.args.linked.now) (map row_seen c.in_ok-gone.gone.items) _ rows c.in_ok-rows.rows
    c.in_ok-rows-2.rows refl lines c.in_ok-rows.ensures (c.in_ok-gone.ensures (readings texts) now.keys)
    (subst (λ (rs : List OneRow). PacksLines IsGoneLine rs c.in_ok-rows.rows c.in_ok-rows-2.rows) (ap (map (λ (r : Bor Row). row_seen r.now)) c.deref-2.ensures.value ∙ c.in_ok-gone-2.ensures ∙ ap (map row_seen) c.deref.ensures.value) c.in_ok-rows-2.ensures)
