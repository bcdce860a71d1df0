use Rattle.std.proofs.Common.{sym, ap, ◌∙◌}
use Rattle.reg_op.specs.Set.{union}
use Rattle.reg_tree.proofs.OverLemmas.{read_over}
use Rattle.reg_tree.proofs.undone.over.piece_over.Goals as goal

pub returns-in-Ok : goal.returns-in-Ok
returns-in-Ok c =
    read_over c.args.register.now c.in-Ok.all c.args.piece.now c.in_ok-part.part c.in_ok-brought.brought c.in_ok-seen.seen
    (c.in_ok-seen.ensures ∙ (λ i. union (c.seen.ensures.value i) (c.basis.ensures.value i))) c.in_ok-part.ensures c.in_ok-brought.ensures c.in-Ok.ensures.ok
