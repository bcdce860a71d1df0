use Rattle.std.proofs.Common.{false, refl}
use Rattle.byte_system.specs.System.{calls}
use Rattle.byte_place.proofs.Courses.{begins}
use Rattle.byte_place.proofs.call_place.CallPlace.restart.Goals as goal

pub invariant_of-self : goal.invariant_of-self
invariant_of-self g c =
    let p = c.args.self.now in
    record { course = ∣ begins p.out.items p.beside.items c.empty-self.result.bytes c.empty-self-2.result.bytes false (calls (g.S.System.state c.args.system)) c.empty-self.ensures refl c.requires ∣₁ }
