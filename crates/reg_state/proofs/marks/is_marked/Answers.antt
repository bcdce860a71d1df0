use Rattle.std.proofs.Common.{sym}
use Rattle.reg_state.proofs.OrderLemmas.{any_at}
use Rattle.reg_state.proofs.marks.is_marked.Goals as goal

pub returns-in-Some : goal.returns-in-Some
returns-in-Some c = sym (any_at c.args.marks.now c.args.target.now _ c.in-Some.ensures.found)
