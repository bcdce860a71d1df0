-- The keys that an export left out.
use Rattle.std.specs.Prelude.{◌≡◌, false, List, [], ◌∷◌, ◌++◌, Option, Some, None, Result, Ok, Err}
use Rattle.reg_op.specs.Ids.{Id}
use Rattle.reg_engine.specs.declared.fault.CliFault.{CliFault}
use Rattle.reg_engine.specs.declared.fault.CliFault.TheVariants as cli
use Rattle.reg_export.specs.declared.into_rows.LeftOutOfFolder.{LeftOutOfFolder}
use Rattle.cli_open.specs.declared.ending.outcome.Done.{Done}
use Rattle.cli_open.specs.declared.ending.outcome.NotDone.{NotDone}
use Rattle.cli_open.specs.declared.ending.outcome.NotDone.TheVariants as stop
use Rattle.cli_look.specs.declared.handing.left.LeftKey.{LeftKey}
use Rattle.cli_look.specs.declared.handing.left.LeftKey.TheVariants as key

abbrev pub long_key : Option Id → List LeftKey
long_key None = []
long_key (Some id) = key.TooLong id ∷ []

abbrev pub taken_key : Option Id → List LeftKey
taken_key None = []
taken_key (Some id) = key.Taken id ∷ []

-- the command is done, and left out these keys beside those before, one with a long name first, unless memory ran out
abbrev pub IsExported : {B : Type 0} → List LeftKey → LeftOutOfFolder → Result (Done LeftKey B) (NotDone CliFault) → Type 0
IsExported before keys (Ok d) = (d.left.items ≡ before ++ long_key keys.long ++ taken_key keys.taken) × (d.differs ≡ false)
IsExported before keys (Err (stop.Fault f)) = f ≡ cli.Memory
IsExported before keys (Err (stop.Misuse line)) = ⊥
