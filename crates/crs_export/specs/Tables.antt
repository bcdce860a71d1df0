-- The tables of PROJ's database.
use Rattle.std.specs.Prelude.{ℕ, ◌==◌, Option, Some, None, if◌then◌else◌}
use Rattle.crs_part.specs.declared.crs.CrsParts.{CrsParts}
use Rattle.crs_part.specs.declared.crs.CrsParts.TheVariants as whole
use Rattle.crs_part.specs.declared.crs.Single.TheVariants as single
use Rattle.crs_part.specs.declared.systems.SystemKind.{SystemKind}
use Rattle.crs_part.specs.declared.systems.SystemKind.TheVariants.{Ellipsoidal, Cartesian, Spherical, Vertical}
use Rattle.crs_export.specs.declared.table.Table.{Table}
use Rattle.crs_export.specs.declared.table.Table.TheVariants.{Geographic2d, Geographic3d, Geocentric, OtherGeodetic, Projected}

-- the type of a geodetic system, by its kind and its number of axes
abbrev pub system_table : SystemKind → ℕ → Table
system_table Ellipsoidal n = if n == 2 then Geographic2d else (if n == 3 then Geographic3d else OtherGeodetic)
system_table Cartesian n = if n == 3 then Geocentric else OtherGeodetic
system_table Spherical n = OtherGeodetic
system_table Vertical n = OtherGeodetic

abbrev pub table_of : CrsParts → Option Table
table_of (whole.Single (single.Geodetic crs)) = Some (system_table crs.system.kind crs.system.dimension)
table_of (whole.Single (single.Projected crs)) = Some Projected
table_of (whole.Single (single.Vertical crs)) = None
table_of (whole.Compound compound) = None
