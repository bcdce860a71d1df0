use Rattle.std.proofs.Common.{◌∙◌, sym, ap, Err}
use Rattle.std.proofs.lemmas.Result.{err_from_is_err_and}
use Rattle.reg_op.proofs.Joins.{refused_first, refused_second}
use Rattle.reg_op.proofs.joining.join_all.Goals as goal

pub returns-in_default-split_first-clause-clash : goal.returns-in_default-split_first-clause-clash
returns-in_default-split_first-clause-clash g c = λ k h.
    let t = g.T.Join in
    refused_first t.joined t.nothing c.in-Some.first.now k c.args.xs.now c.in-Some.rest.now c.in-Some.ensures.cases.0 c.in_default-split_first.ensures.cases
    (ap (λ n. t.joined n c.in-Some.first.now) (sym c.empty-in_default-split_first.ensures) ∙ (c.join.ensures.clash k).0 h)

pub returns-in_err-both-clause-clash : goal.returns-in_err-both-clause-clash
returns-in_err-both-clause-clash g c = λ k h.
    let t = g.T.Join in
    let p = err_from_is_err_and c.from_residual.result c.from_residual.ensures.1 in
    refused_second t.joined t.nothing c.in-Some.first.now c.in-Some-split_first.second.now k c.args.xs.now c.in-Some.rest.now c.in-Some-split_first.others.now
    c.in-Some.ensures.cases.0 c.in-Some-split_first.ensures.cases.0 (g.met.T.Join.laws.neutral _ c.join-2.ensures.values.0)
    ((c.in_err-both.ensures.clash k).0 (sym (p.1 ∙ ap Err p.2) ∙ h))
