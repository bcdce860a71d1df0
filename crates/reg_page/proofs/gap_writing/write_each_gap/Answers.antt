use Rattle.std.proofs.Common.{◌++◌, Some}
use Rattle.std.proofs.lemmas.List.{nil_from_length}
use Rattle.html_page.specs.Pieces.{html}
use Rattle.reg_report.specs.Between.{gaps_between}
use Rattle.reg_page.specs.Blocks.{gap_pieces}
use Rattle.reg_page.specs.Page.{named}
use Rattle.reg_page.proofs.WritingLemmas.{one_gap, no_gap}
use Rattle.reg_page.proofs.gap_writing.write_each_gap.Goals as goal

pub loop-one-init : goal.loop-one-init
loop-one-init g c = λ first text tail h. h

pub loop-one-preserved : goal.loop-one-preserved
loop-one-preserved g c = λ first text tail h.
    let read = named c.args.names.now in
    c.in-Ok.ensures.passed first text (html (gap_pieces read (gaps_between (Some c.in-Some.one.now) c.in-Some.others.now)) ++ tail)
    (one_gap read c.loop-one.before c.in-Some.one.now c.in-Some.others.now tail (c.loop-one.invariant first text tail h) c.in-Some.ensures.cases.0)

pub returns-in-Err-clause-fault : goal.returns-in-Err-clause-fault
returns-in-Err-clause-fault g c = λ first text tail h.
    let read = named c.args.names.now in
    c.in-Err.ensures.fault first text (html (gap_pieces read (gaps_between (Some c.in-Some.one.now) c.in-Some.others.now)) ++ tail)
    (one_gap read c.loop-one.before c.in-Some.one.now c.in-Some.others.now tail (c.loop-one.invariant first text tail h) c.in-Some.ensures.cases.0)

pub returns-clause-passed : goal.returns-clause-passed
returns-clause-passed g c = λ first text tail h. no_gap (named c.args.names.now) c.loop-one.before (c.loop-one.invariant first text tail h) (nil_from_length _ c.in_default.ensures.cases)
