use Rattle.std.proofs.Common.{refl, ap, sym, ◌∙◌, inl, inr, map, subst}
use Rattle.reg_report.specs.Seen.{row_seen}
use Rattle.reg_report.specs.Rows.{HasRow}
use Rattle.reg_texts.proofs.compare.compared_text.Goals as goal

pub returns-in_default-find_row-clause-fault : goal.returns-in_default-find_row-clause-fault
returns-in_default-find_row-clause-fault c = (
  inl refl,
  λ r h. c.in_default-find_row.ensures.none r (subst (λ rs. HasRow rs c.args.one r) (sym (ap (map row_seen) c.deref.ensures.value ∙ c.in-Ok.ensures.rows)) h),
)

pub returns-in_default-find_row-2-clause-fault : goal.returns-in_default-find_row-2-clause-fault
returns-in_default-find_row-2-clause-fault c = (
  inr refl,
  λ r h. c.in_default-find_row-2.ensures.none r (subst (λ rs. HasRow rs c.args.other r) (sym (ap (map row_seen) c.deref-2.ensures.value ∙ c.in-Ok.ensures.rows)) h),
)

pub returns-in-Ok-pair_text-clause-ok : goal.returns-in-Ok-pair_text-clause-ok
returns-in-Ok-pair_text-clause-ok c =
    let one = row_seen c.in-Some.first.now in
    let other = row_seen c.in-Some-find_row.second.now in (
      one,
      other,
      subst (λ rs. HasRow rs c.args.one one) (ap (map row_seen) c.deref.ensures.value ∙ c.in-Ok.ensures.rows) c.in-Some.ensures.some,
      subst (λ rs. HasRow rs c.args.other other) (ap (map row_seen) c.deref-2.ensures.value ∙ c.in-Ok.ensures.rows) c.in-Some-find_row.ensures.some,
      c.in-Ok-pair_text.ensures,
    )
