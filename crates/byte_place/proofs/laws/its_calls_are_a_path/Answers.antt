use Rattle.std.proofs.Math.Logic.{∥∥₁_map}
use Rattle.byte_system.specs.System.{calls}
use Rattle.byte_place.proofs.Courses.{each_on_path}
use Rattle.byte_place.proofs.laws.its_calls_are_a_path.Goals as goal

pub returns : goal.returns
returns g c = λ j k job.
    let p = c.args._place.now in
    ∥∥₁_map p.course (λ come. each_on_path p.out.items p.beside.items p.taken.bytes p.found.bytes p.unread p.at (calls (g.S.System.state p.system)) come j k job)
