-- Units of each kind.
use Rattle.std.proofs.Common.{◌≡◌, ℕ, true, List, ◌++◌, refl}
use Rattle.std.proofs.lemmas.Bool.{and_from}
use Rattle.crs_part.specs.declared.units.Unit.TheVariants as unit
use Rattle.crs_part.specs.declared.units.LengthUnit.TheVariants as length_unit
use Rattle.crs_part.specs.declared.units.AngleUnit.TheVariants as angle_unit
use Rattle.crs_value.specs.Conditions.{has_positive_factor}
use Rattle.wkt_grammar.specs.declared.table.Keyword.TheVariants as keywords
use Rattle.wkt_grammar.specs.Trees.{unit_of_tree, unit_tree, length_unit_tree, angle_unit_tree}
use Rattle.crs_value.specs.declared.kinds.UnitKind.{UnitKind}
use Rattle.crs_value.specs.declared.kinds.UnitKind.TheVariants as kind
use Rattle.wkt_canonical.specs.Reads.{ReadsOne, ReadsWithin, ReadsUnit, opening}
use Rattle.wkt_canonical.specs.Tests.{unit_passes, length_unit_passes, angle_unit_passes}
use Rattle.wkt_canonical.proofs.Runs.{came_within}

pub length_read : {text inside rest : List ℕ} → text ≡ opening keywords.LengthUnit ++ inside → ReadsWithin has_positive_factor unit_of_tree inside rest → ReadsUnit kind.Length text rest
length_read e r = let o = came_within has_positive_factor unit_of_tree keywords.LengthUnit e r in record { value = unit.Length o.value; passes = and_from _ true o.passes refl; kind = refl; is = o.is }

pub angle_read : {text inside rest : List ℕ} → text ≡ opening keywords.AngleUnit ++ inside → ReadsWithin has_positive_factor unit_of_tree inside rest → ReadsUnit kind.Angle text rest
angle_read e r = let o = came_within has_positive_factor unit_of_tree keywords.AngleUnit e r in record { value = unit.Angle o.value; passes = and_from _ true o.passes refl; kind = refl; is = o.is }

pub scale_read : {text inside rest : List ℕ} → text ≡ opening keywords.ScaleUnit ++ inside → ReadsWithin has_positive_factor unit_of_tree inside rest → ReadsUnit kind.Scale text rest
scale_read e r = let o = came_within has_positive_factor unit_of_tree keywords.ScaleUnit e r in record { value = unit.Scale o.value; passes = and_from _ true o.passes refl; kind = refl; is = o.is }

pub generic_read : {text inside rest : List ℕ} → text ≡ opening keywords.Unit ++ inside → ReadsWithin has_positive_factor unit_of_tree inside rest → ReadsUnit kind.Generic text rest
generic_read e r = let o = came_within has_positive_factor unit_of_tree keywords.Unit e r in record { value = unit.Generic o.value; passes = and_from _ true o.passes refl; kind = refl; is = o.is }

pub length_unit_of_length : {text inside rest : List ℕ} → text ≡ opening keywords.LengthUnit ++ inside → ReadsWithin has_positive_factor unit_of_tree inside rest → ReadsOne length_unit_passes length_unit_tree text rest
length_unit_of_length e r = let o = came_within has_positive_factor unit_of_tree keywords.LengthUnit e r in record { value = length_unit.Length o.value; passes = and_from _ true o.passes refl; is = o.is }

pub length_unit_of_generic : {text inside rest : List ℕ} → text ≡ opening keywords.Unit ++ inside → ReadsWithin has_positive_factor unit_of_tree inside rest → ReadsOne length_unit_passes length_unit_tree text rest
length_unit_of_generic e r = let o = came_within has_positive_factor unit_of_tree keywords.Unit e r in record { value = length_unit.Generic o.value; passes = and_from _ true o.passes refl; is = o.is }

pub angle_unit_of_angle : {text inside rest : List ℕ} → text ≡ opening keywords.AngleUnit ++ inside → ReadsWithin has_positive_factor unit_of_tree inside rest → ReadsOne angle_unit_passes angle_unit_tree text rest
angle_unit_of_angle e r = let o = came_within has_positive_factor unit_of_tree keywords.AngleUnit e r in record { value = angle_unit.Angle o.value; passes = and_from _ true o.passes refl; is = o.is }

pub angle_unit_of_generic : {text inside rest : List ℕ} → text ≡ opening keywords.Unit ++ inside → ReadsWithin has_positive_factor unit_of_tree inside rest → ReadsOne angle_unit_passes angle_unit_tree text rest
angle_unit_of_generic e r = let o = came_within has_positive_factor unit_of_tree keywords.Unit e r in record { value = angle_unit.Generic o.value; passes = and_from _ true o.passes refl; is = o.is }

pub any_unit : {which : UnitKind} {text rest : List ℕ} → ReadsUnit which text rest → ReadsOne unit_passes unit_tree text rest
any_unit r = record { value = r.value; passes = r.passes; is = r.is }
