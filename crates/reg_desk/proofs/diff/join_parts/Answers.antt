use Rattle.std.proofs.Common.{Ok, sym, ap, subst, ◌∙◌}
use Rattle.reg_op.specs.Joining.{all_joined}
use Rattle.reg_op.specs.Contents.{nothing, joined}
use Rattle.reg_commands.specs.Merge.{begun, with_pieces, IsUnjoined}
use Rattle.reg_commands.proofs.MergeLemmas.{refusal_stays}
use Rattle.reg_desk.proofs.diff.join_parts.Goals as goal

pub returns-in-Err-clause-err : goal.returns-in-Err-clause-err
returns-in-Err-clause-err c = refusal_stays (begun (all_joined joined (Ok nothing) c.args.registers.now)) c.args.pieces.now c.in-Err.fault c.in-Err.ensures.err

pub returns-in-Ok-join_pieces-clause-ok : goal.returns-in-Ok-join_pieces-clause-ok
returns-in-Ok-join_pieces-clause-ok c = ap (λ r. with_pieces r c.args.pieces.now) c.in-Ok.ensures.ok ∙ c.in-Ok-join_pieces.ensures.ok

pub returns-in-Err-join_pieces-clause-err : goal.returns-in-Err-join_pieces-clause-err
returns-in-Err-join_pieces-clause-err c = subst (λ r. IsUnjoined (with_pieces r c.args.pieces.now) c.in-Err-join_pieces.fault) (sym c.in-Ok.ensures.ok) c.in-Err-join_pieces.ensures.err
