use Rattle.std.proofs.Common.{◌≡◌, length, map}
use Rattle.reg_op.specs.Rows.{Row}
use Rattle.reg_report.specs.Seen.{row_seen}
use Rattle.reg_keys.specs.Named.{Answers}
use Rattle.reg_keys.proofs.AnswerWalks.{Passed}
use Rattle.reg_keys.proofs.answer.first_other.Given as goal

abbrev pub invariant-loop-row : goal.invariant-loop-row
invariant-loop-row l = Passed (λ (r : Row). Answers l.word r → r.definition ≡ l.first.definition) (map row_seen l.rows) (map row_seen l.rest)

abbrev pub decreases-loop-row : goal.decreases-loop-row
decreases-loop-row l = length l.rest
