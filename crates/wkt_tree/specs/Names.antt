-- Names and places of faults.
use Rattle.std.specs.Prelude.{ℕ, List, Option, Some, None, codes}
use Rattle.wkt_tree.specs.declared.fault.TextFault.{TextFault}
use Rattle.wkt_tree.specs.declared.fault.TextFault.TheVariants.{TooLong, NotUtf8, BadByte, TextOpen, BadNumber, NumberRange, Unexpected, Depth, EndEarly, After}

-- the place of a fault
abbrev pub place_of : TextFault → Option ℕ
place_of TooLong = None
place_of (NotUtf8 at) = Some at
place_of (BadByte at) = Some at
place_of (TextOpen at) = Some at
place_of (BadNumber at) = Some at
place_of (NumberRange at) = Some at
place_of (Unexpected at) = Some at
place_of (Depth at) = Some at
place_of (EndEarly at) = Some at
place_of (After at) = Some at

-- the name of a fault
abbrev pub name_of : TextFault → List ℕ
name_of TooLong = codes "TooLong"
name_of (NotUtf8 at) = codes "NotUtf8"
name_of (BadByte at) = codes "BadByte"
name_of (TextOpen at) = codes "TextOpen"
name_of (BadNumber at) = codes "BadNumber"
name_of (NumberRange at) = codes "NumberRange"
name_of (Unexpected at) = codes "Unexpected"
name_of (Depth at) = codes "Depth"
name_of (EndEarly at) = codes "EndEarly"
name_of (After at) = codes "After"
