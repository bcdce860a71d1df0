-- Kinds of reference systems.
use Rattle.crs_part.specs.declared.crs.CrsParts.{CrsParts}
use Rattle.crs_part.specs.declared.crs.CrsParts.TheVariants as whole
use Rattle.crs_part.specs.declared.crs.GeodeticKind.{GeodeticKind}
use Rattle.crs_part.specs.declared.crs.GeodeticKind.TheVariants as geodetic
use Rattle.crs_part.specs.declared.crs.Single.TheVariants as single
use Rattle.crs_value.specs.declared.search.kind.Kind.{Kind}
use Rattle.crs_value.specs.declared.search.kind.Kind.TheVariants.{Geographic, Geodetic, Projected, Vertical, Compound}

abbrev pub geodetic_kind : GeodeticKind → Kind
geodetic_kind geodetic.Geodetic = Geodetic
geodetic_kind geodetic.Geographic = Geographic

abbrev pub kind_of : CrsParts → Kind
kind_of (whole.Single (single.Geodetic crs)) = geodetic_kind crs.kind
kind_of (whole.Single (single.Projected crs)) = Projected
kind_of (whole.Single (single.Vertical crs)) = Vertical
kind_of (whole.Compound compound) = Compound
