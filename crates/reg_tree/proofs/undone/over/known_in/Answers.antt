use Rattle.std.proofs.Common.{refl, sym, ◌∙◌, subst}
use Rattle.reg_op.specs.Lists.{ById}
use Rattle.reg_tree.proofs.OverLemmas.{known_by_id, known_seen, known_is}
use Rattle.reg_tree.proofs.undone.over.known_in.Goals as goal

pub from_content-requires-clause-by_id : goal.from_content-requires-clause-by_id
from_content-requires-clause-by_id c =
    known_by_id c.args.register.now.ops c.args.seen c.as_slice.result.now c.in_ok-made.made.items (subst ById (sym c.as_slice.ensures) c.ops.ensures.by_id) (c.as_slice.ensures ∙ c.ops.ensures.items) c.in_ok-made.ensures

pub from_content-requires-clause-are_seen : goal.from_content-requires-clause-are_seen
from_content-requires-clause-are_seen c =
    known_seen c.args.register.now.ops c.args.seen c.as_slice.result.now c.in_ok-made.made.items (subst ById (sym c.as_slice.ensures) c.ops.ensures.by_id) (c.as_slice.ensures ∙ c.ops.ensures.items) c.in_ok-made.ensures

pub returns-in-Ok : goal.returns-in-Ok
returns-in-Ok c =
    known_is c.args.register.now.ops c.args.seen c.as_slice.result.now c.in_ok-made.made.items (subst ById (sym c.as_slice.ensures) c.ops.ensures.by_id) (c.as_slice.ensures ∙ c.ops.ensures.items) c.in_ok-made.ensures
    c.args.register.now refl c.in-Ok.register c.in-Ok.ensures.ok
