-- The verdict on every text.
use Rattle.std.specs.Prelude.{◌≡◌, ℕ, List, ◌⊎◌}
use Rattle.crs_value.specs.declared.crs.Crs.{Crs}
use Rattle.wkt_crs.specs.declared.fault.ReadFault.{ReadFault}
use Rattle.wkt_crs.specs.declared.fault.ReadFault.TheVariants as fault
use Rattle.wkt_crs.specs.Spells.{Spells}
use Rattle.wkt_crs.specs.Faults.{FirstFault}

-- the text spells a value, or it has a first fault, which says something of the text
abbrev pub HasVerdict : List ℕ → Type 0
HasVerdict text = ((v : Crs) × Spells text v) ⊎ ((f : ReadFault) × ¬ (f ≡ fault.Memory) × FirstFault text f)
