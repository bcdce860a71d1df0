use Rattle.std.proofs.Common.{◌+◌, drop}
use Rattle.std.proofs.lemmas.List.{drop_more, drop_all}
use Rattle.std.proofs.lemmas.Result.{err_from_is_err_and}
use Rattle.reg_lint.proofs.TextLemmas.{one_more, all_read, one_fault}
use Rattle.reg_lint.proofs.texts.push_cuts.Goals as goal

pub loop-cut-init : goal.loop-cut-init
loop-cut-init c = (λ new are. are, λ w f. f)

pub loop-cut-preserved : goal.loop-cut-preserved
loop-cut-preserved c =
    let cuts = c.args.cuts.now in
    let mine = c.in_ok-push_text.ensures.ok in
    one_more c.args.name.now cuts c.args.kept.now.items (drop c.loop-cut.cut-index cuts) (drop (c.loop-cut.cut-index + 1) cuts) _ mine.0
    c.loop-cut.kept.items c.push_text.new.kept.items (drop_more cuts c.loop-cut.cut-index _ c.loop-cut-test.true) mine.1 mine.2 c.loop-cut.invariant

pub returns-clause-ok : goal.returns-clause-ok
returns-clause-ok c =
    let cuts = c.args.cuts.now in
    all_read c.args.name.now cuts c.args.kept.now.items (drop c.loop-cut.cut-index cuts) c.loop-cut.kept.items (drop_all c.loop-cut.cut-index cuts c.loop-cut-test.false) c.loop-cut.invariant

pub returns-in_err-push_text-clause-fault : goal.returns-in_err-push_text-clause-fault
returns-in_err-push_text-clause-fault c =
    let cuts = c.args.cuts.now in
    let p = err_from_is_err_and c.from_residual.result c.from_residual.ensures.1 in
    rw (p.1, p.2)
    (one_fault c.args.name.now cuts c.args.kept.now.items (drop c.loop-cut.cut-index cuts) (drop (c.loop-cut.cut-index + 1) cuts) _ c.loop-cut.kept.items _
    (drop_more cuts c.loop-cut.cut-index _ c.loop-cut-test.true) c.in_err-push_text.ensures.fault c.loop-cut.invariant)
