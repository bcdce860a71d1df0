use Rattle.reg_state.proofs.PieceLemmas.{basis_of_parts}
use Rattle.reg_state.proofs.piece.Piece.from_parts.Goals as goal

pub invariant_of-result : goal.invariant_of-result
invariant_of-result c = basis_of_parts c.args.basis c.args.ops.items c.args.seen _ c.in_ok-part.ensures.ok c.run-first.ensures.ids c.requires.apart
