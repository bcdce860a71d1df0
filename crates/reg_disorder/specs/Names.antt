-- The names of faults, and the entry that each names.
use Rattle.std.specs.Prelude.{ℕ, List, Option, Some, None, codes}
use Rattle.reg_op.specs.Ids.{Id}
use Rattle.reg_disorder.specs.declared.settling.fault.SettleFault.{SettleFault}
use Rattle.reg_disorder.specs.declared.settling.fault.SettleFault.TheVariants.{UnknownEntry, AlreadyRetired, KeyTaken, Memory}

abbrev pub name_of : SettleFault → List ℕ
name_of (UnknownEntry id) = codes "UnknownEntry"
name_of (AlreadyRetired id) = codes "AlreadyRetired"
name_of (KeyTaken id) = codes "KeyTaken"
name_of Memory = codes "Memory"

abbrev pub id_of : SettleFault → Option Id
id_of (UnknownEntry id) = Some id
id_of (AlreadyRetired id) = Some id
id_of (KeyTaken id) = Some id
id_of Memory = None
