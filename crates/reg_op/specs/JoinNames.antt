-- The name of a fault of a join.
use Rattle.std.specs.Prelude.{ℕ, List, codes}
use Rattle.reg_op.specs.declared.joining.JoinFault.{JoinFault}
use Rattle.reg_op.specs.declared.joining.JoinFault.TheVariants.{Clash, Memory}

abbrev pub name_of : {C : Type 0} → JoinFault C → List ℕ
name_of (Clash c) = codes "Clash"
name_of Memory = codes "Memory"
