use Rattle.std.proofs.Common.{[], ◌∷◌, map, sym, ap, ◌∙◌, subst}
use Rattle.std.proofs.lemmas.List.{map-append}
use Rattle.reg_report.specs.Seen.{row_seen}
use Rattle.reg_disorder.specs.Marks.{mark_seen, IsOwn, IsMarkBy, OfSome, Gains}
use Rattle.reg_disorder.proofs.MarkLemmas.{gains_one, gains_both, one_own}
use Rattle.reg_disorder.proofs.mark.push_marks.Goals as goal

pub returns : goal.returns
returns c =
    let rs = map row_seen c.args.rows.now in
    let r = row_seen c.args.row.now in
    let x = mark_seen c.own_mark.result in
    let old = map mark_seen c.args.made.now.items in
    let mid = map mark_seen c.push.new.self.items in
    gains_both (IsOwn r) (OfSome (IsMarkBy rs r) r.newer) old mid (map mark_seen c.push_marks_by.new.made.items)
    (subst (Gains (IsOwn r) old) (sym (ap (map mark_seen) c.in_ok-push.ensures.items ∙ map-append mark_seen c.args.made.now.items (c.own_mark.result ∷ [])))
    (gains_one (IsOwn r) old x c.own_mark.ensures (λ m own. one_own r m x own c.own_mark.ensures)))
    c.in_ok-push_marks_by.ensures
