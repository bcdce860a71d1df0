use Rattle.std.proofs.Common.{[], ◌∷◌, map, sym, subst, append-nil}
use Rattle.reg_report.specs.Seen.{row_seen}
use Rattle.reg_disorder.specs.LinkHeirs.{HasTexts, HasKeys}
use Rattle.reg_disorder.proofs.Firsts.{one_less, seen_end, all_later, no_texts, no_keys}
use Rattle.reg_disorder.proofs.linking.heir.heirs_among.Goals as goal

pub loop-row-init : goal.loop-row-init
loop-row-init c = ([], sym (append-nil (map row_seen c.args.rows.now)), no_texts c.new-texts.result c.new-texts.ensures.empty, no_keys c.new-keys.result c.new-keys.ensures.empty)

pub loop-row-preserved : goal.loop-row-preserved
loop-row-preserved c =
    let all = map row_seen c.args.rows.now in
    let was = c.loop-row.invariant in
    let r = row_seen c.in-Some.row.now in (
      r ∷ was.0,
      one_less all (map row_seen c.loop-row.rest.now) (map row_seen c.in-Some.others.now) was.0 r was.1 (seen_end c.loop-row.rest.now c.in-Some.others.now c.in-Some.row.now c.in-Some.ensures.cases.0),
      c.in_ok-put_text.ensures was.0 was.2,
      c.in_ok-put_key.ensures was.0 was.3,
    )

pub returns-clause-heirs : goal.returns-clause-heirs
returns-clause-heirs c =
    let was = c.loop-row.invariant in
    let e = all_later c.loop-row.rest.now (map row_seen c.args.rows.now) was.0 c.in_default.ensures.cases was.1 in
    record { order = c.requires; texts = subst (HasTexts c.loop-row.texts) (sym e) was.2; keys = subst (HasKeys c.loop-row.keys) (sym e) was.3 }
