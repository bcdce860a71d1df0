use Rattle.std.proofs.Common.{ap, arith, ◌∙◌}
use Rattle.reg_state.specs.Runs.{IsRun, seen_of}
use Rattle.reg_state.proofs.SearchLemmas.{next_told}
use Rattle.reg_state.proofs.seen.Seen.is_next.Goals as goal

pub returns-clause-yes : goal.returns-clause-yes
returns-clause-yes c =
    let is : IsRun c.args.run.now = (omega arith, omega arith) in
    (next_told c.deref.result.now c.args.self.now c.args.run.now c.is_above.result (ap seen_of c.deref.ensures.value ∙ c.self.view_is) is c.is_above.ensures.yes c.is_above.ensures.no).0

pub returns-clause-no : goal.returns-clause-no
returns-clause-no c =
    let is : IsRun c.args.run.now = (omega arith, omega arith) in
    (next_told c.deref.result.now c.args.self.now c.args.run.now c.is_above.result (ap seen_of c.deref.ensures.value ∙ c.self.view_is) is c.is_above.ensures.yes c.is_above.ensures.no).1
