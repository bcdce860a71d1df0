use Rattle.std.proofs.Common.{◌≡◌, true, false, cond, sym, ap, ◌∙◌}
use Rattle.std.specs.BTreeSet.{contains}
use Rattle.reg_op.specs.Ids.{id_cmp, is_same}
use Rattle.reg_office.proofs.RepeatLemmas.{fresh_more, before_more, was_absent}
use Rattle.reg_office.proofs.repeat.repeat_by_set.Goals as goal

pub loop-at-preserved : goal.loop-at-preserved
loop-at-preserved c =
    let named = c.args.named.now in
    let at = c.loop-at.at in
    let e = c.index-named-at.result in
    let absent : contains id_cmp c.loop-at.before e ≡ false = was_absent _ c.in_ok-insert.field-0 c.in_ok-insert.ensures.added c.if-not-branch.false in (
      fresh_more named at e c.loop-at-test.true c.index-named-at.is (sym (c.loop-at.invariant.1 e) ∙ absent) c.loop-at.invariant.0,
      λ q. c.in_ok-insert.ensures.updates.0 q ∙ ap (λ b. cond (is_same e q) true b) (c.loop-at.invariant.1 q) ∙ before_more named at e q c.loop-at-test.true c.index-named-at.is,
    )
