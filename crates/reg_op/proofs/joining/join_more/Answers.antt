use Rattle.std.proofs.Common.{◌∙◌, sym, ap, Err}
use Rattle.std.proofs.lemmas.Result.{err_from_is_err_and}
use Rattle.reg_op.proofs.Joins.{refused_at}
use Rattle.reg_op.proofs.joining.join_more.Goals as goal

pub returns-in_err-all-clause-clash : goal.returns-in_err-all-clause-clash
returns-in_err-all-clause-clash g c = λ k h.
    let p = err_from_is_err_and c.from_residual.result c.from_residual.ensures.1 in
    sym c.loop-x.invariant
    ∙ refused_at g.T.Join.joined c.loop-x.all c.x-item.result k c.args.xs.now c.loop-x.x-index c.x-item.is c.loop-x-test.true
    ((c.in_err-all.ensures.clash k).0 (sym (p.1 ∙ ap Err p.2) ∙ h))
