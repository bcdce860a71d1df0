use Rattle.std.proofs.Common.{arith, ap, List, length}
use Rattle.byte_disk.specs.declared.span.Write.{Write}
use Rattle.byte_disk.proofs.PendingLemmas.{reaches_all}
use Rattle.byte_disk.proofs.mem_disk.MemDisk.left.Goals as goal

pub returns-clause-image : goal.returns-clause-image
returns-clause-image c =
    reaches_all c.args.pending c.loop-write.content.items c.args.self.now.span.base.items c.args.self.now.span.writes.items c.loop-write.write-index
    (omega (arith, c.loop-write-test.false, ap (λ (ws : List Write). length ws) c.deref-write-items.ensures.value)) c.loop-write.invariant
