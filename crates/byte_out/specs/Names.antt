-- The names and places of faults.
use Rattle.std.specs.Prelude.{ℕ, List, Option, Some, None, codes}
use Rattle.byte_out.specs.declared.fault.MakeFault.{MakeFault}
use Rattle.byte_out.specs.declared.fault.MakeFault.TheVariants as made
use Rattle.byte_out.specs.declared.fault.PutFault.{PutFault}
use Rattle.byte_out.specs.declared.fault.PutFault.TheVariants as put
use Rattle.byte_out.specs.declared.fault.ReplaceFault.{ReplaceFault}
use Rattle.byte_out.specs.declared.fault.ReplaceFault.TheVariants as replaced

-- a new file that was not made
abbrev pub make_name : MakeFault → List ℕ
make_name made.NotOpened = codes "NotOpened"
make_name made.Exists = codes "Exists"

-- a file that was not replaced
abbrev pub replace_name : ReplaceFault → List ℕ
replace_name replaced.NotOpened = codes "NotOpened"
replace_name replaced.NewExists = codes "NewExists"
replace_name (replaced.WriteFailed at) = codes "WriteFailed"
replace_name (replaced.ReadFailed at) = codes "ReadFailed"
replace_name replaced.Changed = codes "Changed"
replace_name replaced.NotSynced = codes "NotSynced"

abbrev pub replace_place : ReplaceFault → Option ℕ
replace_place replaced.NotOpened = None
replace_place replaced.NewExists = None
replace_place (replaced.WriteFailed at) = Some at
replace_place (replaced.ReadFailed at) = Some at
replace_place replaced.Changed = None
replace_place replaced.NotSynced = None

-- the fault of a file that was not put in place
abbrev pub put_cause : PutFault → ReplaceFault
put_cause put.NotOpened = replaced.NotOpened
put_cause put.Changed = replaced.Changed
put_cause (put.WriteFailed at) = replaced.WriteFailed at
