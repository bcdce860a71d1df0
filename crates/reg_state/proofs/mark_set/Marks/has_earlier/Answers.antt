use Rattle.std.proofs.Common.{sym, ◌∙◌}
use Rattle.reg_state.proofs.OrderLemmas.{any_before, none_before}
use Rattle.reg_state.proofs.mark_set.Marks.has_earlier.Goals as goal

pub returns-in-Some : goal.returns-in-Some
returns-in-Some c = c.is_before.ensures ∙ sym (any_before c.args.self.now c.in-Some.ensures.least c.args.mark.now.target c.in-Some.least c.args.mark.now.id c.in-Some.ensures.found)

pub returns-in-None : goal.returns-in-None
returns-in-None c = sym (none_before c.args.self.now c.args.mark.now.target c.args.mark.now.id c.in-None.ensures.none)
