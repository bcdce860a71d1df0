use Rattle.std.proofs.Common.{◌≡◌, ◌-◌}
use Rattle.wkt_explain.specs.Walk.{IsInLine, IsFar}
use Rattle.wkt_explain.proofs.walk.Walk.near.Given as goal

abbrev pub invariant-loop-walk : goal.invariant-loop-walk
invariant-loop-walk l = (l.walk.file.now ≡ l.self.file.now) × IsInLine l.walk.file.now l.walk.place l.place × IsFar l.walk.passed l.walk.place l.place

abbrev pub decreases-loop-walk : goal.decreases-loop-walk
decreases-loop-walk l = l.place - l.walk.place
