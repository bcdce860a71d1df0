-- What an office made is brought to any register.
use Rattle.std.specs.Prelude.{◌≡◌, Ok}
use Rattle.reg_op.specs.Contents.{Content, joined}
use Rattle.reg_journal.specs.Journal.{Journal}
use Rattle.reg_journal.specs.Standing.{IsHonest, IsUncaught}
use Rattle.reg_journal.specs.declared.fault.AdmitFault.{AdmitFault}
use Rattle.reg_guard.specs.Admitting.{admit_fault}
use Rattle.reg_engine.specs.declared.fault.CliFault.{CliFault}
use Rattle.reg_engine.specs.Store.{Admission, Screened}

-- nobody else gave a number in the office's name, and the second register is the first one with all that the office made
abbrev pub IsCaughtUp : Journal → Content → Content → Type 0
IsCaughtUp f x y = IsHonest f x × (joined x f.made ≡ Ok y)

-- somebody did: the least such number; or memory ran out
abbrev pub IsNotCaughtUp : Journal → Content → CliFault → Type 0
IsNotCaughtUp f x g = (t : AdmitFault) × IsUncaught f x t × (g ≡ admit_fault t)

-- what a store admits that catches up: never is a register behind
abbrev pub caught_up : Journal → Admission
caught_up f = Screened (IsCaughtUp f) (IsNotCaughtUp f)
