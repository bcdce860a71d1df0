use Rattle.std.proofs.Common.{None, sym, subst, arith, ◌≡◌}
use Rattle.reg_file.specs.Steps.{IsAddingGroups, ReadsGroups}
use Rattle.reg_file.proofs.RangeLemmas.{start_groups, step_groups, end_groups}
use Rattle.reg_file.proofs.ranges.add_groups.Goals as goal

pub loop-init : goal.loop-init
loop-init c = subst (λ s. IsAddingGroups c.args.basis.now s c.args.bytes.now c.args.bytes.now None 0) (sym c.new-seen.ensures) (start_groups c.args.basis.now c.args.bytes.now)

pub loop-preserved : goal.loop-preserved
loop-preserved c =
    step_groups c.args.basis.now c.loop.seen c.add_group.new.seen c.args.bytes.now c.loop.rest.now c.loop.last c.loop.counter c.in-Ok.read.0 c.in-Ok.read.1.now c.loop.invariant c.in-Ok.ensures.ok

pub returns-clause-ok : goal.returns-clause-ok
returns-clause-ok c =
    let all : c.loop.counter ≡ c.args.count = omega (arith, c.loop-test.false) in
    subst (λ n. ReadsGroups c.args.basis.now n c.args.bytes.now c.loop.seen c.loop.rest.now) all (end_groups c.args.basis.now c.loop.seen c.args.bytes.now c.loop.rest.now c.loop.last c.loop.counter c.loop.invariant)
