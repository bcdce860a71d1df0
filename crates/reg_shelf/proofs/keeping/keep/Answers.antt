use Rattle.std.proofs.lemmas.Result.{on_ok_weaker}
use Rattle.byte_disk.specs.Disk.{Only}
use Rattle.byte_shelf.specs.Shelf as slots
use Rattle.reg_shelf.proofs.Kept.{moments_of, sized_moments_of, kept_of, sized_of}
use Rattle.reg_shelf.proofs.keeping.keep.Goals as goal

pub returns-clause-any_moment : goal.returns-clause-any_moment
returns-clause-any_moment g c = λ told was all.
    let first = all (g.D.Disk.seen c.args.disk.now) (g.met.D.Disk.seen_is_image c.args.disk.now told) in
    moments_of g.D.Disk.moment g.D.Disk.images_since (g.D.Disk.images c.args.disk.now) c.args.disk.now c.keep.new.disk first.bytes c.deref.result.now c.in-Ok.file.items was c.args.register.now
    (c.keep.ensures.any_moment told first.bytes first.shelf) all
    c.deref.ensures.value first.held c.in-Ok.ensures.held

pub returns-clause-size_stays : goal.returns-clause-size_stays
returns-clause-size_stays g c = λ told was size all.
    let first = all (g.D.Disk.seen c.args.disk.now) (g.met.D.Disk.seen_is_image c.args.disk.now told) in
    sized_moments_of g.D.Disk.moment g.D.Disk.images_since (g.D.Disk.images c.args.disk.now) c.args.disk.now c.keep.new.disk first.0.bytes c.deref.result.now c.in-Ok.file.items size was c.args.register.now
    (c.keep.ensures.size_stays told first.0.bytes size (first.0.shelf, first.1)) all
    c.deref.ensures.value first.0.held c.in-Ok.ensures.held

pub returns-clause-kept : goal.returns-clause-kept
returns-clause-kept g c = λ told was all.
    let first = all (g.D.Disk.seen c.args.disk.now) (g.met.D.Disk.seen_is_image c.args.disk.now told) in
    let sure : Type 0 = Only (g.D.Disk.seen c.keep.new.disk) (g.D.Disk.images c.keep.new.disk) in
    on_ok_weaker c.keep.result
    (λ (done : sure × slots.IsShelf (g.D.Disk.seen c.keep.new.disk) c.deref.result.now). (done.0, kept_of (g.D.Disk.seen c.keep.new.disk) c.deref.result.now c.in-Ok.file.items c.args.register.now done.1 c.deref.ensures.value c.in-Ok.ensures.held))
    (c.keep.ensures.kept told first.bytes first.shelf)

pub returns-clause-sized : goal.returns-clause-sized
returns-clause-sized g c = λ told was size first.
    let within : Type 0 = slots.EndsWithin size (g.D.Disk.seen c.args.disk.now) (g.D.Disk.seen c.keep.new.disk) in
    on_ok_weaker c.keep.result
    (λ (done : slots.IsShelfOf (g.D.Disk.seen c.keep.new.disk) size c.deref.result.now × within). (sized_of (g.D.Disk.seen c.keep.new.disk) c.deref.result.now c.in-Ok.file.items size c.args.register.now done.0 c.deref.ensures.value c.in-Ok.ensures.held, done.1))
    (c.keep.ensures.sized told first.0.bytes size (first.0.shelf, first.1))
