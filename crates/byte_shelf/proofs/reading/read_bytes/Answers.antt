use Rattle.std.proofs.Common.{◌≡◌, ◌+◌, ◌-◌, ◌++◌, min, ℕ, List, Bool, IsTrue, length, take, drop, sym, ap, subst, ◌∙◌, arith, rules}
use Rattle.byte_shelf.proofs.Chunks.{one_more}
use Rattle.byte_shelf.proofs.Quiet.{quiet_then}
use Rattle.byte_shelf.proofs.reading.read_bytes.Goals as goal

pub loop-bytes-preserved : goal.loop-bytes-preserved
loop-bytes-preserved g c =
    let was = c.loop-bytes.invariant in
    let done : c.len-done.result ≡ length c.loop-bytes.bytes.items = search rules in
    let k : ℕ = min (c.args.len - c.len-done.result) 4096 in
    let long : length c.read_more.new.bytes.items ≡ length c.loop-bytes.bytes.items + k = c.in-Ok.ensures.len in
    record {
      within = omega (arith, long, done, was.within);
      front = λ told.
          let on : IsTrue (g.D.Disk.tells c.loop-bytes.disk) = subst (λ (b : Bool). IsTrue b) (sym was.tells) told in
          let is : c.read_more.new.bytes.items ≡ c.loop-bytes.bytes.items ++ take k (drop (c.args.at + length c.loop-bytes.bytes.items) (g.D.Disk.seen c.args.disk.now)) =
          c.in-Ok.ensures.more on
          ∙ ap (λ (s : List ℕ). c.loop-bytes.bytes.items ++ take k (drop (c.args.at + c.len-done.result) s)) (was.nothing told).same
          ∙ ap (λ (n : ℕ). c.loop-bytes.bytes.items ++ take k (drop (c.args.at + n) (g.D.Disk.seen c.args.disk.now))) done in
          one_more (g.D.Disk.seen c.args.disk.now) c.loop-bytes.bytes.items c.read_more.new.bytes.items c.args.at k (was.front told) is long;
      nothing = λ told.
          let on : IsTrue (g.D.Disk.tells c.loop-bytes.disk) = subst (λ (b : Bool). IsTrue b) (sym was.tells) told in
          quiet_then g.D.Disk.seen g.D.Disk.images g.D.Disk.moment g.D.Disk.images_since c.args.disk.now c.loop-bytes.disk c.read_more.new.disk (was.nothing told) (c.read_more.ensures.nothing on);
      quiet = c.in-Ok.ensures.counts ∙ was.quiet;
      tells = c.read_more.ensures.tells ∙ was.tells;
    }
