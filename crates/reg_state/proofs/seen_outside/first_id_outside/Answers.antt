use Rattle.reg_state.specs.Walks.{is_outside, IsLeastOf}
use Rattle.reg_state.proofs.OutsideLemmas.{if_some_is, least_taken}
use Rattle.reg_state.proofs.seen_outside.first_id_outside.Goals as goal

pub returns-clause-least : goal.returns-clause-least
returns-clause-least c = if_some_is (IsLeastOf (is_outside c.args.left.now c.args.right.now)) c.new-2.result _ c.new-2.ensures.value (least_taken _ _ c.in-Some.run' _ c.new.ensures.same c.in-Some.ensures.taken)
