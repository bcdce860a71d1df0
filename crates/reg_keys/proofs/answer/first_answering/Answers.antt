use Rattle.std.proofs.Common.{map, ap, sym, ◌∙◌}
use Rattle.std.proofs.lemmas.Bool.{true≢false}
use Rattle.reg_op.specs.Rows.{Row}
use Rattle.reg_report.specs.Seen.{row_seen}
use Rattle.reg_keys.specs.Named.{Answers}
use Rattle.reg_keys.proofs.AnswerWalks.{none_passed, passed_more, all_passed, first_here}
use Rattle.reg_keys.proofs.NamedLemmas.{nothing_left}
use Rattle.reg_keys.proofs.answer.first_answering.Goals as goal

pub loop-row-init : goal.loop-row-init
loop-row-init c = none_passed (λ (r : Row). ¬ (Answers c.args.word.now r)) (map row_seen c.args.rows.now)

pub loop-row-preserved : goal.loop-row-preserved
loop-row-preserved c =
    passed_more (λ (r : Row). ¬ (Answers c.args.word.now r)) (map row_seen c.args.rows.now) (map row_seen c.loop-row.rest.now) (map row_seen c.in-Some.others.now) (row_seen c.in-Some.row.now)
    (ap (map row_seen) c.in-Some.ensures.cases.0) (λ a. true≢false (sym (c.answers.ensures.1 a) ∙ c.if-answers.false)) c.loop-row.invariant

pub returns-then-answers-clause-found : goal.returns-then-answers-clause-found
returns-then-answers-clause-found c =
    first_here c.args.word.now (map row_seen c.args.rows.now) (map row_seen c.loop-row.rest.now) (map row_seen c.in-Some.others.now) (row_seen c.in-Some.row.now)
    (ap (map row_seen) c.in-Some.ensures.cases.0) (c.answers.ensures.0 c.if-answers.true) c.loop-row.invariant

pub returns-clause-none : goal.returns-clause-none
returns-clause-none c =
    all_passed (λ (r : Row). ¬ (Answers c.args.word.now r)) (map row_seen c.args.rows.now) (map row_seen c.loop-row.rest.now) (nothing_left row_seen c.loop-row.rest.now c.in_default.ensures.cases) c.loop-row.invariant
