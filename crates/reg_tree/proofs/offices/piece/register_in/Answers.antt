use Rattle.std.proofs.Common.{◌∙◌}
use Rattle.reg_tree.proofs.PieceLemmas.{piece_seen, part_is}
use Rattle.reg_tree.proofs.offices.piece.register_in.Goals as goal

pub from_content-requires-clause-are_seen : goal.from_content-requires-clause-are_seen
from_content-requires-clause-are_seen c =
    piece_seen c.args.piece.now c.in_ok-ops.ops.items c.in_ok-seen.seen c.ops.ensures.piece (c.in_ok-ops.ensures ∙ c.ops.ensures.items) (c.in_ok-seen.ensures ∙ c.seen.ensures.value)

pub returns-in-Ok : goal.returns-in-Ok
returns-in-Ok c =
    part_is c.args.piece.now c.in_ok-ops.ops.items c.in_ok-seen.seen c.in-Ok.register c.in-Ok.ensures.ok (c.in_ok-ops.ensures ∙ c.ops.ensures.items) (c.in_ok-seen.ensures ∙ c.seen.ensures.value)
