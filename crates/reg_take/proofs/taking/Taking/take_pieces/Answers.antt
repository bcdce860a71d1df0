use Rattle.std.proofs.Common.{◌∙◌}
use Rattle.reg_take.proofs.AtOnceLemmas.{shows_pieces}
use Rattle.reg_take.proofs.taking.Taking.take_pieces.Goals as goal

pub returns-in-Ok : goal.returns-in-Ok
returns-in-Ok c =
    shows_pieces c.args.self c.with.result c.args.arrivals.now c.in_ok-register.register c.in-Ok.joined c.deref.result.now c.in_ok-register.ensures (c.deref.ensures.value ∙ c.in_ok-pieces.ensures)
    c.in-Ok.ensures.ok c.with.ensures.register c.with.ensures.left
