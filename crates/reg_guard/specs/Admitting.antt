-- The register on which a command of an office with an office file works.
use Rattle.std.specs.Prelude.{◌≡◌}
use Rattle.reg_op.specs.Contents.{Content}
use Rattle.reg_journal.specs.Journal.{Journal}
use Rattle.reg_journal.specs.Standing.{Admits, IsUnadmitted}
use Rattle.reg_journal.specs.declared.fault.AdmitFault.{AdmitFault}
use Rattle.reg_journal.specs.declared.fault.AdmitFault.TheVariants as admitting
use Rattle.reg_engine.specs.declared.fault.Refusal.TheVariants as refusal
use Rattle.reg_engine.specs.declared.fault.CliFault.{CliFault}
use Rattle.reg_engine.specs.declared.fault.CliFault.TheVariants as cli
use Rattle.reg_engine.specs.Store.{Admission, Screened}

abbrev pub admit_fault : AdmitFault → CliFault
admit_fault (admitting.Behind id) = cli.Refused (refusal.Behind id)
admit_fault (admitting.Forged id) = cli.Refused (refusal.Forged id)
admit_fault admitting.Memory = cli.Memory

-- the loaded register is refused beside the office file, for this reason
abbrev pub IsScreened : Journal → Content → CliFault → Type 0
IsScreened f x g = (t : AdmitFault) × IsUnadmitted f x t × (g ≡ admit_fault t)

-- what a store with this office file admits: the register, joined with all that the office made
abbrev pub with_office : Journal → Admission
with_office f = Screened (Admits f) (IsScreened f)
