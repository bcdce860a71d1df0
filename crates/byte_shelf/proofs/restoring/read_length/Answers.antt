use Rattle.std.proofs.Common.{◌≡◌, length, arith, rules}
use Rattle.byte_shelf.proofs.Slots.{length_read}
use Rattle.byte_shelf.proofs.restoring.read_length.Goals as goal

pub returns-clause-length : goal.returns-clause-length
returns-clause-length g c = λ told.
    let long : length c.read_at.new.buf ≡ 4 = search rules in
    length_read (g.D.Disk.seen c.args.disk.now) c.read_at.new.buf c.args.at c.in-Ok.n c.length_in.result (omega (arith, long, c.in-Ok.ensures.bound, c.if-n-lt4.false)) (c.in-Ok.ensures.bytes told) c.length_in.ensures
