use Rattle.reg_office.proofs.NumberLemmas.{none_above, run_has, ids_are, state_is}
use Rattle.reg_office.proofs.making.register_of.Goals as goal

pub add_run-requires-clause-above : goal.add_run-requires-clause-above
add_run-requires-clause-above c = none_above c.new-seen.result c.args.run c.new-seen.ensures

pub from_content-requires-clause-are_seen : goal.from_content-requires-clause-are_seen
from_content-requires-clause-are_seen c = run_has c.args.ops.items c.args.run c.new-seen.result c.add_run.new.self c.requires.ids c.new-seen.ensures c.in_ok-add_run.ensures.ok

pub returns-in-Ok : goal.returns-in-Ok
returns-in-Ok c =
    state_is c.args.ops.items c.add_run.new.self c.in-Ok.register c.in-Ok.ensures.ok c.seen-content.ensures.content
    (ids_are c.args.ops.items c.args.run c.new-seen.result c.add_run.new.self c.requires.by_id c.requires.ids c.new-seen.ensures c.in_ok-add_run.ensures.ok)
