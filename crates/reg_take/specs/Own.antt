-- What a content has in the name of an office.
use Rattle.std.specs.Prelude.{◌≡◌, ◌≤◌, true}
use Rattle.reg_op.specs.Set.{contains}
use Rattle.reg_op.specs.Ids.{Id}
use Rattle.reg_op.specs.Operations.{Op}
use Rattle.reg_op.specs.Contents.{Content}
use Rattle.reg_journal.specs.Journal.{Journal, is_own}
use Rattle.reg_journal.specs.Standing.{is_known}

-- every number of the office that it has seen is one that the office gave; and every operation under one is the office's, or redundant
-- beside those that it made
pub record HasOnlyGiven (f : Journal) (x : Content) : Type 0 where
  pub numbers : (i : Id) → is_own f.replica i ≡ true → contains x.seen i ≡ true → i.count ≤ f.last
  pub operations : (o : Op) → is_own f.replica o.id ≡ true → contains x.ops o ≡ true → is_known f.made.ops o ≡ true
