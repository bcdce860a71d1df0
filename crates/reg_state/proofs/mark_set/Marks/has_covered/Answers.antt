use Rattle.std.proofs.Common.{None, Some, ◌∙◌}
use Rattle.reg_state.specs.MarkSets.{covers}
use Rattle.reg_state.proofs.CoverLemmas.{begins_covered}
use Rattle.reg_state.proofs.OrderLemmas.{told_of}
use Rattle.reg_state.proofs.mark_set.Marks.has_covered.Goals as goal

pub returns-in-Some : goal.returns-in-Some
returns-in-Some c =
    let t = c.args.target.now in
    c.covers.ensures
    ∙ told_of (covers t) _ _ _ _ (Some c.in-Some.first) (c.first_from.ensures.told (covers t) (begins_covered t)) c.deref.ensures.value c.self.view_is c.in-Some.is

pub returns-in-None : goal.returns-in-None
returns-in-None c =
    let t = c.args.target.now in
    told_of (covers t) _ _ _ _ None (c.first_from.ensures.told (covers t) (begins_covered t)) c.deref.ensures.value c.self.view_is c.in-None.is
