-- The names of faults.
use Rattle.std.specs.Prelude.{ℕ, List, codes}
use Rattle.byte_shelf.specs.declared.fault.ShelfFault.{ShelfFault}
use Rattle.byte_shelf.specs.declared.fault.ShelfFault.TheVariants.{BadSize, TooLarge, NotShelf, Memory, DiskFailed}

abbrev pub name_of : ShelfFault → List ℕ
name_of BadSize = codes "BadSize"
name_of TooLarge = codes "TooLarge"
name_of NotShelf = codes "NotShelf"
name_of Memory = codes "Memory"
name_of DiskFailed = codes "DiskFailed"
