use Rattle.reg_disorder.specs.Marks.{mark_seen}
use Rattle.reg_news.proofs.CodeLemmas.{not_live, told_is}
use Rattle.reg_news.proofs.codes.is_told.Goals as goal

pub returns-then-not-mark : goal.returns-then-not-mark
returns-then-not-mark c = λ rs ss a b h. not_live rs ss (mark_seen c.args.mark.now) c.if-not-mark.true

pub returns : goal.returns
returns c = λ rs ss a b h.
    told_is rs ss (mark_seen c.args.mark.now) c.if-not-mark.false c.was_off-again.result (c.was_off-again.ensures rs a) c.args.changed.now h c.is_anew-anew.result c.is_anew-anew.ensures c.standing_of-standing.result c.told_by.result
    (c.standing_of-standing.ensures ss b) c.told_by.ensures
