use Rattle.std.proofs.Common.{sym, subst}
use Rattle.reg_supersede.specs.Effects.{ArePairs}
use Rattle.reg_supersede.proofs.LineLemmas.{pairs_more, bodies_more}
use Rattle.reg_supersede.proofs.list.push_line.Goals as goal

pub loop-pair-preserved : goal.loop-pair-preserved
loop-pair-preserved c = (
  bodies_more c.args.effects.now.bodies.items c.loop-pair.effects.bodies.items c.push.new.self.items c.args.pairs.now c.loop-pair.pair-index c.pair-item.result
      c.loop-pair-test.true c.pair-item.is c.loop-pair.invariant.0 c.in_ok-push.ensures.items,
  subst (ArePairs c.insert.new.self) (sym c.in_ok-push.ensures.items)
      (pairs_more c.loop-pair.effects.pairs c.insert.new.self c.pair-item.result c.loop-pair.effects.bodies.items (λ q. c.in_ok-insert.ensures.updates.0 q) c.loop-pair.invariant.1),
)
