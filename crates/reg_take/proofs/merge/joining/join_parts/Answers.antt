use Rattle.std.proofs.Common.{◌≡◌, Ok, ap, sym, subst, ◌∙◌}
use Rattle.reg_op.specs.Contents.{nothing, joined}
use Rattle.reg_op.specs.Joining.{all_joined}
use Rattle.reg_commands.specs.Merge.{begun, with_pieces, IsUnjoined}
use Rattle.reg_commands.proofs.MergeLemmas.{refusal_stays}
use Rattle.reg_take.proofs.merge.joining.join_parts.Goals as goal

pub returns-in-Err-clause-err : goal.returns-in-Err-clause-err
returns-in-Err-clause-err c =
    refusal_stays (begun (all_joined joined (Ok nothing) c.args.parts.now.registers.items)) c.args.parts.now.pieces.items c.in-Err.fault
    (subst (λ xs. IsUnjoined (begun (all_joined joined (Ok nothing) xs)) c.in-Err.fault) c.deref.ensures.value c.in-Err.ensures.err)

pub returns-in-Ok-join_pieces-clause-ok : goal.returns-in-Ok-join_pieces-clause-ok
returns-in-Ok-join_pieces-clause-ok c =
    ap (λ r. with_pieces r c.args.parts.now.pieces.items) (subst (λ xs. begun (all_joined joined (Ok nothing) xs) ≡ Ok c.in-Ok.begun) c.deref.ensures.value c.in-Ok.ensures.ok)
    ∙ subst (λ qs. with_pieces (Ok c.in-Ok.begun) qs ≡ Ok c.in-Ok-join_pieces.joined) c.deref-2.ensures.value c.in-Ok-join_pieces.ensures.ok

pub returns-in-Err-join_pieces-clause-err : goal.returns-in-Err-join_pieces-clause-err
returns-in-Err-join_pieces-clause-err c =
    let first = subst (λ xs. begun (all_joined joined (Ok nothing) xs) ≡ Ok c.in-Ok.begun) c.deref.ensures.value c.in-Ok.ensures.ok in
    subst (λ r. IsUnjoined (with_pieces r c.args.parts.now.pieces.items) c.in-Err-join_pieces.fault) (sym first)
    (subst (λ qs. IsUnjoined (with_pieces (Ok c.in-Ok.begun) qs) c.in-Err-join_pieces.fault) c.deref-2.ensures.value c.in-Err-join_pieces.ensures.err)
