use Rattle.std.proofs.Common.{◌∙◌}
use Rattle.reg_take.proofs.AtOnceLemmas.{shows_registers}
use Rattle.reg_take.proofs.taking.Taking.take_registers.Goals as goal

pub returns-in-Ok : goal.returns-in-Ok
returns-in-Ok c =
    shows_registers c.args.self c.with.result c.args.arrivals.now c.in-Ok.joined c.deref.result.now c.seen-seen.ensures.content (c.deref.ensures.value ∙ c.in_ok-all.ensures) c.in-Ok.ensures.ok
    c.with.ensures.register c.with.ensures.left
