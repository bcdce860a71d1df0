-- A command that is run again on a register which lacks what it made.
use Rattle.std.specs.Prelude.{◌≡◌, true, false}
use Rattle.reg_op.specs.Set as set
use Rattle.reg_op.specs.Ids.{Ids}
use Rattle.reg_op.specs.Operations.{Op, Ops, kept, replaces}
use Rattle.reg_op.specs.Finite.{any}
use Rattle.reg_journal.specs.Again.{still_holds}

-- a register has not seen the operation; of all operations, those of its office among them, none replaces it, and what it names is
-- still there
pub record IsMissed (seen : Ids) (all : Ops) (o : Op) : Type 0 where
  pub unseen : set.contains seen o.id ≡ false
  pub needed : any (λ p. replaces p o) all ≡ false
  pub holds : still_holds (kept all) o.id o.body ≡ true
