-- The exit statuses of what standard error reports, which are never that of success.
use Rattle.std.specs.Prelude.{◌≡◌, ℕ}
use Rattle.std.proofs.Common.{arith}
use Rattle.reg_engine.specs.declared.fault.CliFault.{CliFault}
use Rattle.reg_engine.specs.declared.fault.CliFault.TheVariants as cli
use Rattle.reg_engine.specs.Fault.{status_of}
use Rattle.reg_desk.specs.declared.import.fault.ImportFault.{ImportFault}
use Rattle.reg_desk.specs.declared.import.fault.ImportFault.TheVariants as import
use Rattle.reg_desk.specs.Import.{exit_status}
use Rattle.cli_change.specs.declared.change.ListFault.{ListFault}
use Rattle.cli_change.specs.declared.change.ListFault.TheVariants as list

-- a refusal, also of a line or of a key
abbrev pub refused : ℕ
refused = 1

abbrev pub list_status : ListFault → ℕ
list_status (list.Plain f) = status_of f
list_status (list.AtLine line) = refused

pub refused_is_no_success : ¬ (refused ≡ 0)
refused_is_no_success e = omega (arith, e)

pub fault_is_no_success : (f : CliFault) → ¬ (status_of f ≡ 0)
fault_is_no_success (cli.Refused r) e = omega (arith, e)
fault_is_no_success (cli.File number f) e = omega (arith, e)
fault_is_no_success (cli.Out f) e = omega (arith, e)
fault_is_no_success cli.Memory e = omega (arith, e)
fault_is_no_success (cli.Shelf p) e = omega (arith, e)
fault_is_no_success (cli.Office t) e = omega (arith, e)

pub import_is_no_success : (f : ImportFault) → ¬ (exit_status f ≡ 0)
import_is_no_success (import.Cli f) e = fault_is_no_success f e
import_is_no_success (import.Refused p place file) e = omega (arith, e)

pub list_is_no_success : (f : ListFault) → ¬ (list_status f ≡ 0)
list_is_no_success (list.Plain f) e = fault_is_no_success f e
list_is_no_success (list.AtLine line) e = omega (arith, e)
