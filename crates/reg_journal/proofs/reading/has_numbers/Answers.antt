use Rattle.reg_journal.proofs.NumbersLemmas.{runs_are, are_numbers}
use Rattle.reg_journal.proofs.reading.has_numbers.Goals as goal

pub returns : goal.returns
returns c = (
  (λ h. are_numbers c.args.replica c.args.last c.runs.result.now c.args.seen.now c.runs.ensures.all (c.are_numbers.ensures.0 h)),
  (λ e. c.are_numbers.ensures.1 (runs_are c.args.replica c.args.last c.runs.result.now c.args.seen.now c.runs.ensures.runs c.runs.ensures.all e)),
)
