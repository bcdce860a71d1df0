-- A text spells what its condensed text spells.
use Rattle.std.proofs.Common.{ℕ, List}
use Rattle.crs_value.specs.declared.crs.Crs.{Crs}
use Rattle.wkt_write.specs.CondensedLaw.{IsReadAs}
use Rattle.wkt_crs.specs.Spells.{Spells, SpellsCanon}

pub spells_as : (text bytes : List ℕ) (v : Crs) → IsReadAs text bytes → Spells bytes v → Spells text v
spells_as text bytes v r s =
    let t = r v.parts (record { item = s.item; outline = s.outline; denotes = s.denotes }) in
    record { item = t.item; outline = t.outline; denotes = t.denotes }

pub canon_as : (text bytes canonical : List ℕ) → IsReadAs text bytes → SpellsCanon bytes canonical → SpellsCanon text canonical
canon_as text bytes canonical r c = record { value = c.value; spells = spells_as text bytes c.value r c.spells; is = c.is }
