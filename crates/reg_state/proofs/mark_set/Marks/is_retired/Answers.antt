use Rattle.std.proofs.Common.{sym}
use Rattle.reg_state.proofs.OrderLemmas.{any_at}
use Rattle.reg_state.proofs.mark_set.Marks.is_retired.Goals as goal

pub returns-in-Some : goal.returns-in-Some
returns-in-Some c = sym (any_at c.args.self.now (record { entry = c.args.entry; by = _ }) _ c.in-Some.ensures.found)
