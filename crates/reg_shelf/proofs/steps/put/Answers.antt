use Rattle.std.proofs.Common.{refl}
use Rattle.std.proofs.lemmas.Result.{on_ok_weaker}
use Rattle.byte_disk.specs.Disk.{Only}
use Rattle.byte_shelf.specs.Shelf as slots
use Rattle.reg_shelf.proofs.Kept.{put_moments, put_sized_moments, kept_of, sized_of}
use Rattle.reg_shelf.proofs.steps.put.Goals as goal

pub returns-clause-any_moment : goal.returns-clause-any_moment
returns-clause-any_moment g c = λ told only was next shelf ready.
    put_moments g.D.Disk.moment g.D.Disk.images_since c.args.disk.now c.put.new.disk shelf.bytes ready.bytes was next
    (c.put.ensures.any_moment told only shelf.bytes ready.bytes shelf.shelf ready.ready) shelf.held ready.held

pub returns-clause-size_stays : goal.returns-clause-size_stays
returns-clause-size_stays g c = λ told only was next size first ready.
    put_sized_moments g.D.Disk.moment g.D.Disk.images_since c.args.disk.now c.put.new.disk first.0.bytes ready.bytes size was next
    (c.put.ensures.size_stays told only first.0.bytes ready.bytes size (first.0.shelf, first.1) ready.ready) first.0.held ready.held

pub returns-clause-kept : goal.returns-clause-kept
returns-clause-kept g c = λ told was next shelf ready.
    let sure : Type 0 = Only (g.D.Disk.seen c.put.new.disk) (g.D.Disk.images c.put.new.disk) in
    on_ok_weaker c.put.result
    (λ (done : sure × slots.IsShelf (g.D.Disk.seen c.put.new.disk) ready.bytes). (done.0, kept_of (g.D.Disk.seen c.put.new.disk) ready.bytes ready.bytes next done.1 refl ready.held))
    (c.put.ensures.kept told shelf.bytes ready.bytes shelf.shelf ready.ready)

pub returns-clause-sized : goal.returns-clause-sized
returns-clause-sized g c = λ told was next size first ready.
    let within : Type 0 = slots.EndsWithin size (g.D.Disk.seen c.args.disk.now) (g.D.Disk.seen c.put.new.disk) in
    on_ok_weaker c.put.result
    (λ (done : slots.IsShelfOf (g.D.Disk.seen c.put.new.disk) size ready.bytes × within). (sized_of (g.D.Disk.seen c.put.new.disk) ready.bytes ready.bytes size next done.0 refl ready.held, done.1))
    (c.put.ensures.sized told first.0.bytes ready.bytes size (first.0.shelf, first.1) ready.ready)
