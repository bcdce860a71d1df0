-- Why nothing is handed on.
use Rattle.std.specs.Prelude.{◌≡◌, ◌⊎◌, ℕ, Bool, false, List, Option, Some, None}
use Rattle.reg_op.specs.Contents.{Content}
use Rattle.reg_op.specs.Ids.{Id}
use Rattle.reg_op.specs.Rows.{Row}
use Rattle.reg_query.specs.Found.{AreFoundIn}
use Rattle.reg_engine.specs.declared.fault.CliFault.{CliFault}
use Rattle.reg_engine.specs.declared.fault.CliFault.TheVariants as cli
use Rattle.reg_engine.specs.declared.fault.Refusal.TheVariants as refusal
use Rattle.reg_export.specs.declared.choice.Choice.{Choice}
use Rattle.reg_export.specs.Choice.{asked}
use Rattle.reg_export.specs.Chosen.{IsTaken}

-- this entry names a key with two texts, which may not be left out
pub record IsStopped (keep_going : Bool) (taken : Option Id) (f : CliFault) : Type 0 where
  pub id : Id
  pub may_not : keep_going ≡ false
  pub is_taken : taken ≡ Some id
  pub is : f ≡ cli.Refused (refusal.KeyTaken id)

-- such an entry is the least of the least key among the rows; or memory ran out
abbrev pub IsNoText : Bool → List Row → CliFault → Type 0
IsNoText keep_going found f = (f ≡ cli.Memory) ⊎ ((taken : Option Id) × IsTaken found taken × IsStopped keep_going taken f)

-- the same of a content
abbrev pub CannotHand : Choice → Bool → Content → CliFault → Type 0
CannotHand c keep_going x f = (f ≡ cli.Memory) ⊎ ((found : List Row) × AreFoundIn x (asked c) found × IsNoText keep_going found f)
