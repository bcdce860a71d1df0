use Rattle.std.proofs.Common.{sym, ◌∙◌, arith, rules, IsTrue}
use Rattle.byte_shelf.proofs.Outcomes.{at_ok}
use Rattle.byte_shelf.proofs.Slots.{fresh_shelf}
use Rattle.byte_shelf.proofs.formatting.format.Goals as goal

pub returns-clause-done : goal.returns-clause-done
returns-clause-done g c = λ told.
    let done = sym c.is_err.ensures.value ∙ c.if-is_err.false in
    let sized : IsTrue c.is_size.result = search rules in (
      at_ok c.write_through.result done (c.write_through.ensures.done told),
      fresh_shelf (g.D.Disk.seen c.args.disk.now) (g.D.Disk.seen c.write_through.new.disk) c.args.bytes.now c.deref.result.now c.args.size c.ranges.size.fits (c.is_size.ensures.some sized)
          (omega (arith, c.if-bytes-size.false)) (c.deref.ensures.value ∙ c.in-Ok.ensures) (at_ok c.write_through.result done (c.write_through.ensures.written told)),
    )
