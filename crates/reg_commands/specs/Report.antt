-- The texts that are printed of a register, and why none is.
use Rattle.std.specs.Prelude.{◌≡◌, true, false, List, ℕ}
use Rattle.reg_op.specs.Ids.{Id}
use Rattle.reg_op.specs.Contents.{Content}
use Rattle.reg_op.specs.Status.{enters}
use Rattle.reg_office.specs.declared.fault.OfficeFault.TheVariants as office
use Rattle.reg_report.specs.Reports.{IsEntryReport}
use Rattle.reg_engine.specs.declared.fault.Refusal.TheVariants as refusal
use Rattle.reg_engine.specs.declared.fault.CliFault.{CliFault}
use Rattle.reg_engine.specs.declared.fault.CliFault.TheVariants as cli

-- ---- one entry

-- some operation of the content enters the entry, and the text is the header and the entry's one line
abbrev pub IsRowOf : Id → Content → List ℕ → Type 0
IsRowOf entry x text = (enters x.ops entry ≡ true) × IsEntryReport entry x text

-- no operation of the content enters the entry; or memory ran out
abbrev pub Lacks : Id → Content → CliFault → Type 0
Lacks entry x (cli.Refused (refusal.Office (office.UnknownEntry id))) = (id ≡ entry) × (enters x.ops entry ≡ false)
Lacks entry x cli.Memory = Unit {0}
Lacks entry x f = ⊥
