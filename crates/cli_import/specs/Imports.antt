-- How an import ends.
use Rattle.std.specs.Prelude.{◌≡◌, Bool, false, [], Result, Ok, Err}
use Rattle.reg_desk.specs.declared.import.fault.Unimported.{Unimported}
use Rattle.cli_open.specs.declared.ending.outcome.Done.{Done}
use Rattle.cli_open.specs.declared.ending.outcome.NotDone.{NotDone}
use Rattle.cli_open.specs.declared.ending.outcome.NotDone.TheVariants as stop
use Rattle.cli_import.specs.declared.brought.Brought.{Brought}
use Rattle.cli_import.specs.declared.importing.NotImported.{NotImported}

-- it is done, left nothing out and brought this; or it is not, for the reason that its engine gave, brought this, and refused a file of crsreg or not
abbrev pub IsImportOutcome : {A : Type 0} → Result A Unimported → Brought → Bool → Result (Done NotImported Brought) (NotDone NotImported) → Type 0
IsImportOutcome (Ok a) brought is_own (Ok d) = (d.left.items ≡ []) × (d.differs ≡ false) × (d.brought ≡ brought)
IsImportOutcome (Err why) brought is_own (Err (stop.Fault n)) = (n.why ≡ why) × (n.brought ≡ brought) × (n.is_own ≡ is_own)
IsImportOutcome answer brought is_own outcome = ⊥
