-- The faults of a text, without out of memory: names, places, and the results of reading.
use Rattle.std.specs.Prelude.{ℕ, List, Option, Some, None, codes}
use Rattle.wkt_tree.specs.Names as tree
use Rattle.wkt_grammar.specs.Faults.{fault_name}
use Rattle.wkt_grammar.specs.Slots.{place}
use Rattle.wkt_crs.specs.declared.fault.Unspelled.{Unspelled}
use Rattle.wkt_crs.specs.declared.fault.Unspelled.TheVariants as refused
use Rattle.wkt_crs.specs.declared.fault.ReadFault.{ReadFault}
use Rattle.wkt_crs.specs.declared.fault.ReadFault.TheVariants as read

-- the result of a reader
abbrev pub as_read : Unspelled → ReadFault
as_read (refused.Text f) = read.Text f
as_read (refused.Slot f) = read.Slot f
as_read (refused.Broken condition at) = read.Broken condition at

-- and back: `Memory` says nothing of the text
abbrev pub unspelled : ReadFault → Option Unspelled
unspelled (read.Text f) = Some (refused.Text f)
unspelled (read.Slot f) = Some (refused.Slot f)
unspelled (read.Broken condition at) = Some (refused.Broken condition at)
unspelled read.Memory = None

-- the name of a fault
abbrev pub name_of : Unspelled → List ℕ
name_of (refused.Text f) = tree.name_of f
name_of (refused.Slot f) = fault_name f
name_of (refused.Broken condition at) = codes "Broken"

-- the place of a fault
abbrev pub place_of : Unspelled → Option ℕ
place_of (refused.Text f) = tree.place_of f
place_of (refused.Slot f) = Some (place f)
place_of (refused.Broken condition at) = Some at

abbrev pub name_or_memory : Option Unspelled → List ℕ
name_or_memory (Some f) = name_of f
name_or_memory None = codes "Memory"

abbrev pub read_name : ReadFault → List ℕ
read_name f = name_or_memory (unspelled f)
