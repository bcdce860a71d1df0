use Rattle.std.proofs.Common.{map, sym, subst}
use Rattle.reg_report.specs.Seen.{row_seen}
use Rattle.reg_disorder.specs.Marks.{mark_seen, AreMarks}
use Rattle.reg_news.proofs.codes.codes_between.Goals as goal

pub returns : goal.returns
returns c =
    let rs = map row_seen c.args.earlier.now in
    let ss = map row_seen c.args.later.now in
    let a = subst (λ l. AreMarks rs (map mark_seen l)) (sym c.deref.ensures.value) c.in_ok-before.ensures in
    let b = subst (λ l. AreMarks ss (map mark_seen l)) (sym c.deref-2.ensures.value) c.in_ok-after.ensures in
    let d = subst (λ l. AreMarks rs (map mark_seen l)) (sym c.deref-3.ensures.value) c.in_ok-before.ensures in
    let e = subst (λ l. AreMarks ss (map mark_seen l)) (sym c.deref-4.ensures.value) c.in_ok-after.ensures in
    c.told_among.ensures rs ss d e (c.in_ok-changed.ensures rs ss a b)
