use Rattle.std.proofs.Common.{Some, ◌<◌, arith, ◌∙◌}
use Rattle.byte_io.proofs.Known.{Appends-further, room_after}
use Rattle.byte_io.proofs.writing.write_all.Goals as goal

pub loop-written-preserved : goal.loop-written-preserved
loop-written-preserved g c =
    let some : 0 < c.in-Ok.n = omega arith in
    let was = c.loop-written.invariant in record {
      taken = Appends-further (Some _) (Some (g.K.Sink.state c.loop-written.sink).taken) (Some _) c.args.bytes.now c.loop-written.written c.in-Ok.n was.taken c.in-Ok.ensures.taken;
      appended = Appends-further _ (g.K.Sink.state c.loop-written.sink).written _ c.args.bytes.now c.loop-written.written c.in-Ok.n was.appended c.in-Ok.ensures.bytes;
      within = room_after c.args.bytes.now c.loop-written.written c.in-Ok.n was.within c.in-Ok.ensures.bound;
      quiet = c.in-Ok.ensures.failure ∙ was.quiet;
      moved = c.in-Ok.ensures.stall.0 some ∙ was.moved;
      openings = c.in-Ok.ensures.openings ∙ was.openings;
    }
