use Rattle.reg_state.proofs.PieceLemmas.{basis_of_outside}
use Rattle.reg_state.proofs.register.Register.piece_for.Goals as goal

pub invariant_of-result : goal.invariant_of-result
invariant_of-result c = basis_of_outside c.args.basis.now _ c.args.self.now _ c.in_ok-basis.ensures c.in_ok-part.ensures c.run-first.ensures.ids
