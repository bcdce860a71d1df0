use Rattle.std.proofs.Common.{◌≡◌, ◌<◌, ◌≤◌, ◌+◌, length, get_or, ◌∷◌, [], ◌++◌, map, take, sym, ap, ◌∙◌, subst}
use Rattle.std.proofs.lemmas.List.{take_all, take_more}
use Rattle.reg_report.specs.Seen.{row_seen}
use Rattle.reg_disorder.specs.Marks.{mark_seen, IsMarkBy, OfSome, Gains}
use Rattle.reg_disorder.proofs.MarkLemmas.{some_none, some_more}
use Rattle.reg_disorder.proofs.mark.push_marks_by.Goals as goal

pub loop-entry-init : goal.loop-entry-init
loop-entry-init c = some_none (IsMarkBy (map row_seen c.args.rows.now) (row_seen c.args.row.now)) (map mark_seen c.args.made.now.items)

pub loop-entry-preserved : goal.loop-entry-preserved
loop-entry-preserved c =
    let By = IsMarkBy (map row_seen c.args.rows.now) (row_seen c.args.row.now) in
    let ids = (row_seen c.args.row.now).newer in
    let at = c.loop-entry.entry-index in
    let e = c.entry-item.result in
    let all = c.deref-entry-items.ensures.value in
    let there = subst (λ l. at < length l) all c.loop-entry-test.true in
    let is = subst (λ l. e ≡ get_or l at e) all c.entry-item.is in
    subst (λ l. Gains (OfSome By l) (map mark_seen c.args.made.now.items) (map mark_seen c.push_mark_by.new.made.items))
    ((λ j. take at ids ++ is j ∷ []) ∙ sym (take_more ids at e there))
    (some_more By (take at ids) e (map mark_seen c.args.made.now.items) (map mark_seen c.loop-entry.made.items) (map mark_seen c.push_mark_by.new.made.items) c.loop-entry.invariant c.in_ok-push_mark_by.ensures)

pub returns : goal.returns
returns c =
    let By = IsMarkBy (map row_seen c.args.rows.now) (row_seen c.args.row.now) in
    let ids = (row_seen c.args.row.now).newer in
    subst (λ l. Gains (OfSome By l) (map mark_seen c.args.made.now.items) (map mark_seen c.loop-entry.made.items)) (take_all c.loop-entry.entry-index ids (subst (λ l. length l ≤ c.loop-entry.entry-index) c.deref-entry-items.ensures.value c.loop-entry-test.false)) c.loop-entry.invariant
