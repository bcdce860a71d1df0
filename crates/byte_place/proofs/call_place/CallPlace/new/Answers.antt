use Rattle.std.proofs.Common.{false, refl}
use Rattle.byte_system.specs.System.{calls}
use Rattle.byte_place.proofs.Courses.{begins}
use Rattle.byte_place.proofs.call_place.CallPlace.new.Goals as goal

pub invariant_of-result : goal.invariant_of-result
invariant_of-result g c =
    let a = c.args in
    record { course = ∣ begins a.out.items a.beside.items c.empty.result.bytes c.empty-2.result.bytes false (calls (g.S.System.state a.system)) c.empty.ensures refl c.requires ∣₁ }
