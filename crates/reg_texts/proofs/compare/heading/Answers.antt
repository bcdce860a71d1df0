use Rattle.std.proofs.Common.{refl, ap, sym, ◌∙◌, inl, map, subst}
use Rattle.reg_report.specs.Seen.{row_seen}
use Rattle.reg_report.specs.Rows.{HasRow}
use Rattle.reg_texts.proofs.compare.heading.Goals as goal

pub returns-in_default-find_row-clause-fault : goal.returns-in_default-find_row-clause-fault
returns-in_default-find_row-clause-fault c = (
  inl refl,
  λ r h. c.in_default-find_row.ensures.none r (subst (λ rs. HasRow rs c.args.entry r) (sym (ap (map row_seen) c.deref.ensures.value ∙ c.in-Ok.ensures.rows)) h),
)

pub returns-in-Ok-head_of-clause-ok : goal.returns-in-Ok-head_of-clause-ok
returns-in-Ok-head_of-clause-ok c =
    let row = row_seen c.in-Some.row.now in
    (row, subst (λ rs. HasRow rs c.args.entry row) (ap (map row_seen) c.deref.ensures.value ∙ c.in-Ok.ensures.rows) c.in-Some.ensures.some, c.in-Ok-head_of.ensures)
