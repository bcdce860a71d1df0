-- The values that texts spell by the first edition of the grammar, and by the second.
use Rattle.std.proofs.Common.{ℕ, List}
use Rattle.crs_value.specs.declared.crs.Crs.{Crs}
use Rattle.wkt_grammar.specs.Bare.{bare}
use Rattle.wkt_grammar.specs.FirstEdition.{NothingAdded}
use Rattle.wkt_grammar.proofs.FirstEdition.{parts_still, parts_before}
use Rattle.wkt_crs.specs.Spells.{FirstSpells, Spells}

pub still_spells : (text : List ℕ) (v : Crs) → FirstSpells text v → Spells text v × NothingAdded v.parts
still_spells text v s =
    let d = parts_still (bare s.item) v.parts s.denotes in
    (record { item = s.item; outline = s.outline; denotes = d.0 }, d.1)

pub spelled_before : (text : List ℕ) (v : Crs) → Spells text v → NothingAdded v.parts → FirstSpells text v
spelled_before text v s n = record { item = s.item; outline = s.outline; denotes = parts_before (bare s.item) v.parts s.denotes n }
