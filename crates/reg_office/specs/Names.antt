-- The names of faults, and the entry that each names.
use Rattle.std.specs.Prelude.{ℕ, List, Option, Some, None, codes}
use Rattle.reg_op.specs.Ids.{Id}
use Rattle.reg_office.specs.declared.fault.OfficeFault.{OfficeFault}
use Rattle.reg_office.specs.declared.fault.OfficeFault.TheVariants as office

-- a command that an office refuses
abbrev pub office_name : OfficeFault → List ℕ
office_name office.NoteTooLong = codes "NoteTooLong"
office_name (office.UnknownEntry id) = codes "UnknownEntry"
office_name office.SameEntry = codes "SameEntry"
office_name (office.AlreadyRetired id) = codes "AlreadyRetired"
office_name (office.AlreadySuperseded id) = codes "AlreadySuperseded"
office_name office.CountSpent = codes "CountSpent"
office_name office.Memory = codes "Memory"

-- the entry that it names
abbrev pub office_id : OfficeFault → Option Id
office_id office.NoteTooLong = None
office_id (office.UnknownEntry id) = Some id
office_id office.SameEntry = None
office_id (office.AlreadyRetired id) = Some id
office_id (office.AlreadySuperseded id) = Some id
office_id office.CountSpent = None
office_id office.Memory = None
