use Rattle.std.proofs.Common.{Err, ap, subst}
use Rattle.reg_file.specs.Files.{HoldsPiece, IsPieceTooLarge}
use Rattle.reg_commands.proofs.exchange.PieceForGive.file.Goals as goal

pub returns-in-Ok-write_piece_bytes-clause-gives : goal.returns-in-Ok-write_piece_bytes-clause-gives
returns-in-Ok-write_piece_bytes-clause-gives g c = (c.in-Ok.basis, c.in-Ok.ensures.found, subst (HoldsPiece c.in-Ok-write_piece_bytes.bytes.items) c.in-Ok-piece_for.ensures c.in-Ok-write_piece_bytes.ensures.held)

pub returns-in-Err-TooLarge-clause-refuses : goal.returns-in-Err-TooLarge-clause-refuses
returns-in-Err-TooLarge-clause-refuses g c =
    (c.in-Ok.basis, c.in-Ok.ensures.found, subst IsPieceTooLarge c.in-Ok-piece_for.ensures (c.in-Err-TooLarge.ensures.large.0 (ap Err c.in-Err-TooLarge.field-0-is)))
