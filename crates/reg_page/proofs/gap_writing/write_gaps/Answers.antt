use Rattle.std.proofs.Common.{◌++◌, ◌∷◌, [], None, arith}
use Rattle.html_page.specs.Pieces.{Markup, html}
use Rattle.html_page.specs.declared.markup.TheConstants.{GAPS_START, GAPS_END}
use Rattle.reg_report.specs.Between.{gaps_between}
use Rattle.reg_page.specs.Page.{named}
use Rattle.reg_page.proofs.WritingLemmas.{made, left, section_start, no_gaps}
use Rattle.reg_page.proofs.gap_writing.write_gaps.Goals as goal

pub returns-then-count_gaps-eq0-clause-passed : goal.returns-then-count_gaps-eq0-clause-passed
returns-then-count_gaps-eq0-clause-passed g c = λ first text rest h.
    no_gaps (named c.args.names.now) (gaps_between None c.args.runs.now) (omega (arith, c.if-count_gaps-eq0.true, c.count_gaps.ensures)) h

pub returns-in-Err-write_each_gap-clause-fault : goal.returns-in-Err-write_each_gap-clause-fault
returns-in-Err-write_each_gap-clause-fault g c = λ first text rest h.
    c.in-Err-write_each_gap.ensures.fault first text (html (Markup GAPS_END.now ∷ []) ++ rest)
    (made (Markup GAPS_START.now ∷ [])
    (section_start (named c.args.names.now) (gaps_between None c.args.runs.now) rest (omega (arith, c.if-count_gaps-eq0.false, c.count_gaps.ensures)) h) c.in_default.ensures)

pub returns-in-Err-push_mark-clause-fault : goal.returns-in-Err-push_mark-clause-fault
returns-in-Err-push_mark-clause-fault g c = λ first text rest h.
    left (c.in-Ok.ensures.passed first text (html (Markup GAPS_END.now ∷ []) ++ rest)
    (made (Markup GAPS_START.now ∷ [])
    (section_start (named c.args.names.now) (gaps_between None c.args.runs.now) rest (omega (arith, c.if-count_gaps-eq0.false, c.count_gaps.ensures)) h) c.in_default.ensures))

pub returns-clause-passed : goal.returns-clause-passed
returns-clause-passed g c = λ first text rest h.
    made (Markup GAPS_END.now ∷ [])
    (c.in-Ok.ensures.passed first text (html (Markup GAPS_END.now ∷ []) ++ rest)
    (made (Markup GAPS_START.now ∷ [])
    (section_start (named c.args.names.now) (gaps_between None c.args.runs.now) rest (omega (arith, c.if-count_gaps-eq0.false, c.count_gaps.ensures)) h) c.in_default.ensures))
    c.in_default-push_mark.ensures
