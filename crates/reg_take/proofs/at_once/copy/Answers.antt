use Rattle.std.proofs.Common.{◌∙◌}
use Rattle.reg_tree.proofs.Held.{piece_seen}
use Rattle.reg_take.proofs.AtOnceLemmas.{copy_is}
use Rattle.reg_take.proofs.at_once.copy.Goals as goal

pub from_parts-requires-clause-are_seen : goal.from_parts-requires-clause-are_seen
from_parts-requires-clause-are_seen c =
    piece_seen c.args.piece.now c.in_ok-ops.ops.items c.in_ok-seen.seen c.ops.ensures.piece (c.in_ok-ops.ensures ∙ c.ops.ensures.items) (c.in_ok-seen.ensures ∙ c.seen.ensures.value)

pub returns-in-Ok : goal.returns-in-Ok
returns-in-Ok c =
    copy_is c.args.piece.now c.in_ok-ops.ops.items c.in_ok-basis.basis c.in_ok-seen.seen c.in-Ok.copy c.in-Ok.ensures.ok (c.in_ok-ops.ensures ∙ c.ops.ensures.items) (c.in_ok-basis.ensures ∙ c.basis.ensures.value)
    (c.in_ok-seen.ensures ∙ c.seen.ensures.value)
