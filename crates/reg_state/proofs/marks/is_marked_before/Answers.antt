use Rattle.std.proofs.Common.{sym, ◌∙◌}
use Rattle.reg_state.proofs.OrderLemmas.{any_before, none_before}
use Rattle.reg_state.proofs.marks.is_marked_before.Goals as goal

pub returns-in-Some : goal.returns-in-Some
returns-in-Some c = c.is_before.ensures ∙ sym (any_before c.args.marks.now c.in-Some.ensures.least c.args.target.now c.in-Some.least c.args.id c.in-Some.ensures.found)

pub returns-in-None : goal.returns-in-None
returns-in-None c = sym (none_before c.args.marks.now c.args.target.now c.args.id c.in-None.ensures.none)
