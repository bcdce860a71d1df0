use Rattle.std.proofs.Common.{arith}
use Rattle.byte_disk.proofs.SpanLemmas.{ordered_later}
use Rattle.byte_disk.proofs.mem_disk.MemDiskDisk.read_at.Goals as goal

pub invariant_of-self-clause-ordered : goal.invariant_of-self-clause-ordered
invariant_of-self-clause-ordered c = ordered_later c.args.self.now.past.items c.args.self.now.clock.count c.after-self.result.count (omega (arith, c.after-self.ensures)) c.args.self.now.ordered

pub invariant_of-self-else-ne-clause-ordered : goal.invariant_of-self-else-ne-clause-ordered
invariant_of-self-else-ne-clause-ordered c = ordered_later c.args.self.now.past.items c.args.self.now.clock.count c.after-self.result.count (omega (arith, c.after-self.ensures)) c.args.self.now.ordered
