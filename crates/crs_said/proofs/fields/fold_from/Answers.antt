use Rattle.std.proofs.Common.{arith, get_or}
use Rattle.std.proofs.lemmas.List.{get_or_default}
use Rattle.crs_exact.specs.Names.{plain}
use Rattle.crs_said.proofs.ChangedLemmas.{none_changed, one_changed, all_changed}
use Rattle.crs_said.proofs.fields.fold_from.Goals as goal

pub loop-i-init : goal.loop-i-init
loop-i-init c = none_changed plain c.args.bytes.now c.args.start

pub loop-i-preserved : goal.loop-i-preserved
loop-i-preserved c =
    let old = get_or c.loop-i.bytes c.loop-i.i 0 in
    rw c.plain.ensures
    (one_changed plain c.args.bytes.now c.loop-i.bytes c.args.start c.loop-i.i old (omega arith) c.loop-i-test.true c.loop-i.invariant (get_or_default c.loop-i.bytes c.loop-i.i 0 old (omega arith)))

pub returns : goal.returns
returns c = all_changed plain c.args.bytes.now c.loop-i.bytes c.args.start c.loop-i.i (omega arith) c.loop-i.invariant
