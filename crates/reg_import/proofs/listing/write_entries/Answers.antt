use Rattle.std.proofs.Common.{List, ◌+◌, [], ◌∷◌, ◌++◌, append_assoc, append-nil, drop, map, sym, ap, ◌∙◌, subst}
use Rattle.std.proofs.lemmas.List.{drop_more, drop_all}
use Rattle.std.specs.Borrow.{Bor}
use Rattle.reg_op.specs.Rows.{Row as OneRow}
use Rattle.reg_report.specs.declared.row.Row.{Row}
use Rattle.reg_report.specs.Seen.{row_seen}
use Rattle.reg_import.specs.Lines.{IsEntryLine}
use Rattle.reg_import.specs.Listing.{WritesLines}
use Rattle.reg_import.proofs.LineLemmas.{one_line, then_lines}
use Rattle.reg_import.proofs.listing.write_entries.Goals as goal

pub loop-row-preserved : goal.loop-row-preserved
loop-row-preserved c =
    let seen : Bor Row → OneRow = λ q. row_seen q.now in
    let rows = c.args.rows.now in
    let i = c.loop-row.row-index in
    let done = c.loop-row.invariant.0 in
    let r = seen c.row-item.result in
    let line = c.in_ok-write_entry.ensures in
    let next = drop_more rows i _ c.loop-row-test.true ∙ ap (λ (q : Bor Row). q ∷ drop (i + 1) rows) (sym c.row-item.is) in (
      done ++ r ∷ [],
      c.loop-row.invariant.1 ∙ ap (λ (l : List (Bor Row)). done ++ map seen l) next ∙ sym (append_assoc done (r ∷ []) (map seen (drop (i + 1) rows))),
      then_lines (IsEntryLine c.args.action.now) done (r ∷ []) c.args.wtr.now c.loop-row.wtr c.write_entry.new.wtr c.loop-row.invariant.2 (one_line (IsEntryLine c.args.action.now) r line.0 c.loop-row.wtr c.write_entry.new.wtr line.1 line.2),
    )

pub returns : goal.returns
returns c =
    let seen : Bor Row → OneRow = λ q. row_seen q.now in
    let done = c.loop-row.invariant.0 in
    let all = c.loop-row.invariant.1 ∙ ap (λ (l : List (Bor Row)). done ++ map seen l) (drop_all c.loop-row.row-index c.args.rows.now c.loop-row-test.false) ∙ append-nil done in
    subst (λ (l : List OneRow). WritesLines (IsEntryLine c.args.action.now) l c.args.wtr.now c.loop-row.wtr) (sym all) c.loop-row.invariant.2
