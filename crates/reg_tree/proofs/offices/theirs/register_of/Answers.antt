use Rattle.std.proofs.Common.{List, map, ap, ◌∙◌}
use Rattle.reg_op.specs.Set as set
use Rattle.reg_op.specs.Ids.{id_cmp}
use Rattle.reg_op.specs.Operations.{Op}
use Rattle.reg_tree.proofs.OfficeLemmas.{made_by_id, made_seen, made_is}
use Rattle.reg_tree.proofs.offices.theirs.register_of.Goals as goal

pub from_content-requires-clause-by_id : goal.from_content-requires-clause-by_id
from_content-requires-clause-by_id c = made_by_id c.args.offices.now c.args.ops.now c.requires c.in_ok-made.made.items c.in_ok-made.ensures

pub from_content-requires-clause-are_seen : goal.from_content-requires-clause-are_seen
from_content-requires-clause-are_seen c =
    made_seen c.args.offices.now c.args.ops.now c.requires c.in_ok-made.made.items c.in_ok-made.ensures c.in_ok-seen.seen
    (c.in_ok-seen.ensures ∙ ap (λ (l : List Op). set.from_list {R = id_cmp} (map (λ (o : Op). o.id) l)) c.deref.ensures.value)

pub returns-in-Ok : goal.returns-in-Ok
returns-in-Ok c =
    made_is c.args.offices.now c.args.ops.now c.requires c.in_ok-made.made.items c.in_ok-made.ensures c.in_ok-seen.seen
    (c.in_ok-seen.ensures ∙ ap (λ (l : List Op). set.from_list {R = id_cmp} (map (λ (o : Op). o.id) l)) c.deref.ensures.value) c.in-Ok.register c.in-Ok.ensures.ok c.in-Ok.ensures.kept
