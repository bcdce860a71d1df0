use Rattle.std.proofs.Common.{◌≡◌, ◌∙◌, ◌++◌, sym, arith}
use Rattle.std.proofs.lemmas.Bool.Decides.{nat_tests}
use Rattle.reg_journal.specs.Text.{line_text}
use Rattle.reg_journal.proofs.LineLemmas.{head_long, head_front, head_back, no_line, one_head, one_rest, lines_of, same_line}
use Rattle.reg_journal.proofs.head.read_head.Goals as goal

pub returns-then-text-lt36-clause-none : goal.returns-then-text-lt36-clause-none
returns-then-text-lt36-clause-none c = λ h rest is e. let long = head_long c.args.text.now h rest e in absurd (omega arith)

pub returns-in_default-clause-none : goal.returns-in_default-clause-none
returns-in_default-clause-none c = λ h rest is e. c.in_default.ensures.none h is (c.split_at.ensures.front ∙ head_front c.args.text.now h rest e)

pub returns-in_default-split_first-clause-none : goal.returns-in_default-split_first-clause-none
returns-in_default-split_first-clause-none c = λ h rest is e. no_line _ 58 (lines_of h rest) (c.split_at.ensures.back ∙ head_back c.args.text.now h rest e) c.in_default-split_first.ensures.cases

pub returns-then-colon-ne58-clause-none : goal.returns-then-colon-ne58-clause-none
returns-then-colon-ne58-clause-none c = λ h rest is e.
    let same : c.in-Some-split_first.colon.now ≡ 58 =
    one_head _ 58 _ (lines_of h rest) (sym c.in-Some-split_first.ensures.cases.0 ∙ c.split_at.ensures.back ∙ head_back c.args.text.now h rest e) in
    let other = c.if-colon-ne58.true in
    absurd (grind (arith, nat_tests))

pub returns-in_default-line_of-clause-none : goal.returns-in_default-line_of-clause-none
returns-in_default-line_of-clause-none c = λ h rest is e.
    c.in_default-line_of.ensures.none h.last (line_text h.stood ++ rest) is.last_fits
    (one_rest _ 58 _ (lines_of h rest) (sym c.in-Some-split_first.ensures.cases.0 ∙ c.split_at.ensures.back ∙ head_back c.args.text.now h rest e))

pub returns-in_default-line_of-2-clause-none : goal.returns-in_default-line_of-2-clause-none
returns-in_default-line_of-2-clause-none c = λ h rest is e.
    let lines = one_rest _ 58 _ (lines_of h rest) (sym c.in-Some-split_first.ensures.cases.0 ∙ c.split_at.ensures.back ∙ head_back c.args.text.now h rest e) in
    let first = c.in-Some-line_of.ensures.found in
    c.in_default-line_of-2.ensures.none h.stood rest is.stood_fits (same_line _ h.last _ (line_text h.stood ++ rest) first.1 is.last_fits (sym first.0 ∙ lines)).1
