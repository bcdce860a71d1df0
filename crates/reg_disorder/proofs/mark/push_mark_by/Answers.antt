use Rattle.std.proofs.Common.{[], ◌∷◌, map, sym, ap, ◌∙◌, subst, arith}
use Rattle.std.proofs.lemmas.List.{map-append}
use Rattle.reg_report.specs.Seen.{row_seen}
use Rattle.reg_disorder.specs.Marks.{mark_seen, IsMarkBy, Gains}
use Rattle.reg_disorder.proofs.MarkLemmas.{gains_none, gains_one, not_by, only_by}
use Rattle.reg_disorder.proofs.mark.push_mark_by.Goals as goal

pub returns-in_default : goal.returns-in_default
returns-in_default c = gains_none (IsMarkBy (map row_seen c.args.rows.now) (row_seen c.args.row.now) c.args.entry) (map mark_seen c.args.made.now.items) (λ m by. c.in_default.ensures.none by.0 by.1)

pub returns-then-not-succeeds : goal.returns-then-not-succeeds
returns-then-not-succeeds c =
    let rs = map row_seen c.args.rows.now in
    let r = row_seen c.args.row.now in
    gains_none (IsMarkBy rs r c.args.entry) (map mark_seen c.args.made.now.items)
    (not_by rs c.requires r c.args.entry (row_seen c.in-Some.newer.now) c.in-Some.ensures.some (λ s. let t = c.succeeds.ensures.1 s in let f = c.if-not-succeeds.true in grind arith))

pub returns : goal.returns
returns c =
    let rs = map row_seen c.args.rows.now in
    let r = row_seen c.args.row.now in
    let newer = row_seen c.in-Some.newer.now in
    let x = mark_seen c.mark_by.result in
    let old = map mark_seen c.args.made.now.items in
    subst (Gains (IsMarkBy rs r c.args.entry) old) (sym (ap (map mark_seen) c.in_ok-push.ensures.items ∙ map-append mark_seen c.args.made.now.items (c.mark_by.result ∷ [])))
    (gains_one (IsMarkBy rs r c.args.entry) old x (newer, c.in-Some.ensures.some, c.succeeds.ensures.0 c.if-not-succeeds.false, c.mark_by.ensures)
    (only_by rs c.requires r c.args.entry newer c.in-Some.ensures.some x c.mark_by.ensures))
