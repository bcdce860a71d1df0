use Rattle.std.proofs.Common.{Bool, IsTrue, sym, subst}
use Rattle.byte_disk.proofs.Moments.{write_and_more}
use Rattle.byte_disk.proofs.through.write_through.Goals as goal

pub returns-clause-any_moment : goal.returns-clause-any_moment
returns-clause-any_moment g c = λ told only.
    let told' = subst (λ (b : Bool). IsTrue b) (sym c.write_at.ensures.tells) told in
    write_and_more g.D.Disk.moment g.D.Disk.images_since c.args.disk.now c.write_at.new.self c.sync.new.self c.args.at _ (g.D.Disk.seen c.args.disk.now)
    (g.D.Disk.images c.args.disk.now) (g.D.Disk.images c.write_at.new.self) (g.D.Disk.images c.sync.new.self)
    only (λ b left. g.met.D.Disk.only_now c.args.disk.now b told left) (c.write_at.ensures.images told) (c.sync.ensures.images told')
    (c.write_at.ensures.time told) (c.sync.ensures.time told')
