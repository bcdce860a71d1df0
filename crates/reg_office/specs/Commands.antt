-- The effects of commands, and the content after a command.
use Rattle.std.specs.Prelude.{◌≡◌, ℕ, List, map, Ok}
use Rattle.reg_op.specs.Set as set
use Rattle.reg_op.specs.Ids.{Id}
use Rattle.reg_op.specs.Operations.{Op}
use Rattle.reg_op.specs.declared.operation.OpBody.{OpBody as Body}
use Rattle.reg_op.specs.declared.operation.OpBody.TheVariants.{Supersede, Retire}
use Rattle.reg_op.specs.Contents.{Content, state, joined}
use Rattle.reg_office.specs.Making.{made}

-- each entry is retired
abbrev pub retirements : List Id → List Body
retirements entries = map Retire entries

-- an old entry is superseded by each newer one
abbrev pub supersessions : Id → List Id → List Body
supersessions old newer = map (Supersede old) newer

-- the operations that the command makes of the old content have joined it, and these are their ids
pub record Does (old : Content) (replica note : List ℕ) (bodies : List Body) (new : Content) (ids : List Id) : Type 0 where
  pub ops : List Op
  pub are_made : made old replica note bodies ≡ Ok ops
  pub are_joined : joined old (state (set.from_list ops)) ≡ Ok new
  pub their_ids : ids ≡ map (λ o. o.id) ops
