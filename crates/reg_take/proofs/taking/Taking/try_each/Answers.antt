use Rattle.std.proofs.Common.{refl}
use Rattle.reg_take.specs.Taken.{tried}
use Rattle.reg_take.proofs.AgainLemmas.{next_tried, last_tried}
use Rattle.reg_take.proofs.taking.Taking.try_each.Goals as goal

pub loop-one-init : goal.loop-one-init
loop-one-init c t shows = (t, shows, refl)

pub loop-one-preserved : goal.loop-one-preserved
loop-one-preserved c t shows =
    let was = c.loop-one.invariant t shows in (
      tried c.args.arrivals.now was.0 c.in-Some.one.now,
      c.in_ok-taking.ensures was.0 was.1,
      next_tried c.args.arrivals.now was.0 t c.in-Some.one.now c.loop-one.rest.now c.in-Some.others.now c.args.waiting.now c.in-Some.ensures.cases.0 was.2,
    )

pub returns : goal.returns
returns c t shows =
    let was = c.loop-one.invariant t shows in
    last_tried c.args.arrivals.now c.loop-one.taking was.0 t c.loop-one.rest.now c.args.waiting.now c.in_default.ensures.cases was.1 was.2
