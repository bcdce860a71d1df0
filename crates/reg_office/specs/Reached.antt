-- The operations that offices reach, and the events by which they do.
use Rattle.std.specs.Prelude.{◌≡◌, ◌≢◌, ℕ, true, List, ◌∷◌, ◌++◌, Ok}
use Rattle.reg_op.specs.Set as set
use Rattle.reg_op.specs.Lists.{has}
use Rattle.reg_op.specs.Operations.{Op, Ops}
use Rattle.reg_office.specs.Making.{made}
use Rattle.reg_office.specs.World.{World, Event, Make, Stop, LeavesNew, Leads}

-- an office has reached more operations, and nothing else has changed
pub record Reaches (w : World) (i : List ℕ) (more : Ops) (v : World) : Type 0 where
  pub reached : (v.offices i).reached ≡ set.union (w.offices i).reached more
  pub others : (j : List ℕ) → j ≢ i → v.offices j ≡ w.offices j
  pub pool : v.pool ≡ w.pool

-- by the event an office makes the operation; by a stopped event only if its result is kept
abbrev pub IsMadeBy : World → Event → Op → Type 0
IsMadeBy w (Make i effects note) o = (os : List Op) × (made (w.offices i).content i note effects ≡ Ok os) × (has os o ≡ true)
IsMadeBy w (Stop e left) o = IsMadeBy w e o × LeavesNew w e left
IsMadeBy w e o = ⊥

-- an office made the operation by one of the events that lead on from w
pub record WasMade (w : World) (events : List Event) (o : Op) : Type 0 where
  pub before : List Event
  pub event : Event
  pub after : List Event
  pub are_all : events ≡ before ++ event ∷ after
  pub world : World
  pub leads : Leads w before world
  pub is_made : IsMadeBy world event o
