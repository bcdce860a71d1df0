use Rattle.std.proofs.Math.Logic.{∥∥₁_map}
use Rattle.byte_system.specs.System.{calls}
use Rattle.byte_place.specs.declared.progress.At.TheVariants as at
use Rattle.byte_place.proofs.Courses.{as_at, put_there}
use Rattle.byte_place.proofs.laws.what_is_put_replaced.Goals as goal

pub returns : goal.returns
returns g c = λ is j k job.
    let p = c.args._place.now in
    let cs = calls (g.S.System.state p.system) in
    ∥∥₁_map (as_at p.out.items p.beside.items p.taken.bytes p.found.bytes p.unread p.at at.Put cs is p.course) (λ come. put_there p.out.items p.beside.items p.taken.bytes p.found.bytes p.unread cs come j k job)
