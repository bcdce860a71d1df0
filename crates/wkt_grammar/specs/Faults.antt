-- The name of a slot fault.
use Rattle.std.specs.Prelude.{ℕ, List, codes}
use Rattle.wkt_grammar.specs.declared.fault.SlotFault.{SlotFault}
use Rattle.wkt_grammar.specs.declared.fault.SlotFault.TheVariants.{NotHere, Missing, NotCount, WordUnknown}

abbrev pub fault_name : SlotFault → List ℕ
fault_name (NotHere at) = codes "NotHere"
fault_name (Missing slot at) = codes "Missing"
fault_name (NotCount at) = codes "NotCount"
fault_name (WordUnknown at) = codes "WordUnknown"
