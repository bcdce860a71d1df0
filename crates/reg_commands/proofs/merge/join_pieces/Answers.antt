use Rattle.std.proofs.Common.{Ok, sym, subst}
use Rattle.reg_commands.specs.Merge.{with_pieces, IsUnjoined}
use Rattle.reg_commands.proofs.MergeLemmas.{unjoined_by}
use Rattle.reg_commands.proofs.merge.join_pieces.Goals as goal

pub returns-in-Err-clause-err : goal.returns-in-Err-clause-err
returns-in-Err-clause-err c =
    let joined = with_pieces (Ok c.args.register) c.args.pieces.now in
    subst (λ f. IsUnjoined joined f) (sym c.of_piece.ensures) (unjoined_by c.join_pieces.result joined c.join_pieces.ensures.basis c.join_pieces.ensures.clash c.in-Err.fault c.in-Err.is)
