use Rattle.std.proofs.Common.{◌≡◌, ◌≤◌, ◌-◌, IsTrue, length, take, drop}
use Rattle.byte_shelf.specs.Keep.{AddsNothing}
use Rattle.byte_shelf.proofs.reading.read_bytes.Given as goal

abbrev pub invariant-loop-bytes : goal.invariant-loop-bytes
invariant-loop-bytes g l = record {
  within : length l.bytes.items ≤ l.len;
  front : IsTrue (g.D.Disk.tells l.initial.disk) → l.bytes.items ≡ take (length l.bytes.items) (drop l.at (g.D.Disk.seen l.initial.disk));
  nothing : IsTrue (g.D.Disk.tells l.initial.disk) → AddsNothing g.D.Disk.seen g.D.Disk.images g.D.Disk.moment g.D.Disk.images_since l.initial.disk l.disk;
  quiet : g.D.Disk.failures l.disk ≡ g.D.Disk.failures l.initial.disk;
  tells : g.D.Disk.tells l.disk ≡ g.D.Disk.tells l.initial.disk;
}

abbrev pub decreases-loop-bytes : goal.decreases-loop-bytes
decreases-loop-bytes g l = l.len - length l.bytes.items
