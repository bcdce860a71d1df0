use Rattle.std.proofs.Common.{◌≡◌, false, ℕ, length, inr, subst, arith, rules}
use Rattle.byte_disk.specs.Disk.{ReadsAt}
use Rattle.byte_shelf.proofs.Steps.{head_read}
use Rattle.byte_shelf.proofs.head.read_head.Goals as goal

pub returns-then-not-is_size-clause-not_shelf : goal.returns-then-not-is_size-clause-not_shelf
returns-then-not-is_size-clause-not_shelf g c = λ told _.
    let long : length c.read_at.new.buf ≡ 5 = search rules in
    let five : c.in-Ok.n ≡ 5 = omega (arith, long, c.in-Ok.ensures.bound, c.if-n-lt5.false) in
    let reads = subst (λ (n : ℕ). ReadsAt (g.D.Disk.seen c.args.disk.now) 0 n c.read_at.new.buf) five (c.in-Ok.ensures.bytes told) in
    let bad : c.is_size.result ≡ false = search rules in
    inr (
      c.head_in-head.result.gate,
      c.head_in-head.result.size,
      head_read (g.D.Disk.seen c.args.disk.now) c.read_at.new.buf c.head_in-head.result.gate c.head_in-head.result.size long reads c.head_in-head.ensures,
      c.is_size.ensures.none bad,
    )
