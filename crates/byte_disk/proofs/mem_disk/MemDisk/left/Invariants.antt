use Rattle.std.proofs.Common.{◌≡◌, drop}
use Rattle.byte_disk.specs.Pending.{left_by}
use Rattle.byte_disk.proofs.mem_disk.MemDisk.left.Given as goal

abbrev pub invariant-loop-write : goal.invariant-loop-write
invariant-loop-write l = left_by l.pending l.content.items (drop l.write-index l.self.span.writes.items) ≡ left_by l.pending l.self.span.base.items l.self.span.writes.items
