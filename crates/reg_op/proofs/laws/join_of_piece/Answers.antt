use Rattle.reg_op.proofs.RefusalLemmas.{piece_joined, piece_basis, piece_clash, piece_gives_content}
use Rattle.reg_op.proofs.laws.join_of_piece.Goals as goal

pub returns : goal.returns
returns c = record { ok = λ x z p. piece_joined x p z; basis = piece_basis; clash = piece_clash; content = λ x z p. piece_gives_content x p z }
