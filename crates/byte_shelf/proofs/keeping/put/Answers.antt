use Rattle.std.proofs.Common.{sym, ◌∙◌}
use Rattle.byte_shelf.proofs.Kept.{moments_of, sized_moments_of, kept_of, sized_of}
use Rattle.byte_shelf.proofs.Outcomes.{at_ok}
use Rattle.byte_shelf.proofs.keeping.put.Goals as goal

pub returns-then-is_err-clause-any_moment : goal.returns-then-is_err-clause-any_moment
returns-then-is_err-clause-any_moment g c = λ told only was bytes shelf ready.
    moments_of g.D.Disk.moment g.D.Disk.images_since c.args.disk.now c.replace_in_two.new.disk (g.D.Disk.seen c.args.disk.now) was bytes c.deref.result.now c.args.frame.now
    (c.replace_in_two.ensures.any_moment told only) c.deref.ensures.value shelf ready

pub returns-then-is_err-clause-size_stays : goal.returns-then-is_err-clause-size_stays
returns-then-is_err-clause-size_stays g c = λ told only was bytes size shelf ready.
    sized_moments_of g.D.Disk.moment g.D.Disk.images_since c.args.disk.now c.replace_in_two.new.disk (g.D.Disk.seen c.args.disk.now) was bytes c.deref.result.now c.args.frame.now size
    (c.replace_in_two.ensures.any_moment told only) c.deref.ensures.value shelf ready

pub returns-clause-any_moment : goal.returns-clause-any_moment
returns-clause-any_moment g c = λ told only was bytes shelf ready.
    moments_of g.D.Disk.moment g.D.Disk.images_since c.args.disk.now c.replace_in_two.new.disk (g.D.Disk.seen c.args.disk.now) was bytes c.deref.result.now c.args.frame.now
    (c.replace_in_two.ensures.any_moment told only) c.deref.ensures.value shelf ready

pub returns-clause-size_stays : goal.returns-clause-size_stays
returns-clause-size_stays g c = λ told only was bytes size shelf ready.
    sized_moments_of g.D.Disk.moment g.D.Disk.images_since c.args.disk.now c.replace_in_two.new.disk (g.D.Disk.seen c.args.disk.now) was bytes c.deref.result.now c.args.frame.now size
    (c.replace_in_two.ensures.any_moment told only) c.deref.ensures.value shelf ready

pub returns-clause-kept : goal.returns-clause-kept
returns-clause-kept g c = λ told was bytes shelf ready.
    let done = sym c.is_err.ensures.value ∙ c.if-is_err.false in (
      at_ok c.replace_in_two.result done (c.replace_in_two.ensures.done told),
      kept_of (g.D.Disk.seen c.args.disk.now) (g.D.Disk.seen c.replace_in_two.new.disk) was bytes c.deref.result.now c.args.frame.now
          (at_ok c.replace_in_two.result done (c.replace_in_two.ensures.written told)) c.deref.ensures.value shelf ready,
    )

pub returns-clause-sized : goal.returns-clause-sized
returns-clause-sized g c = λ told was bytes size shelf ready.
    let done = sym c.is_err.ensures.value ∙ c.if-is_err.false in
    sized_of (g.D.Disk.seen c.args.disk.now) (g.D.Disk.seen c.replace_in_two.new.disk) was bytes c.deref.result.now c.args.frame.now size
    (at_ok c.replace_in_two.result done (c.replace_in_two.ensures.written told)) c.deref.ensures.value shelf ready
