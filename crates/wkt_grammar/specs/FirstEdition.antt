-- The values that trees denote by the rows of the first edition of the grammar, which has no geoid models and no vertical
-- extents. All other nodes have the same rows in both editions, and the same meaning.
use Rattle.std.specs.Prelude.{◌≡◌, List, [], None, All}
use Rattle.crs_part.specs.declared.usages.Usage.{Usage}
use Rattle.crs_part.specs.declared.crs.Geodetic.{Geodetic}
use Rattle.crs_part.specs.declared.crs.Projected.{Projected}
use Rattle.crs_part.specs.declared.crs.Vertical as verticals
use Rattle.crs_part.specs.declared.crs.Single.{Single}
use Rattle.crs_part.specs.declared.crs.Single.TheVariants as single
use Rattle.crs_part.specs.declared.crs.Compound.{Compound}
use Rattle.crs_part.specs.declared.crs.CrsParts.{CrsParts}
use Rattle.crs_part.specs.declared.crs.CrsParts.TheVariants as parts
use Rattle.wkt_grammar.specs.declared.table.Edition.TheVariants as editions
use Rattle.wkt_grammar.specs.declared.table.Keyword.{Keyword}
use Rattle.wkt_grammar.specs.declared.table.Keyword.TheVariants as keywords
use Rattle.wkt_grammar.specs.declared.table.Node.{Node}
use Rattle.wkt_grammar.specs.declared.table.Node.TheVariants as nodes
use Rattle.wkt_grammar.specs.Bare.{Bare}
use Rattle.wkt_grammar.specs.Runs.{Fields, nothing, ◌&◌, IsNodeIn, One, Maybe, Each, AtLeastOne}
use Rattle.wkt_grammar.specs.Leaves.{DenotesText}
use Rattle.wkt_grammar.specs.Denotes.{DenotesValue, DenotesIdent, DenotesUnit, DenotesBoundingBox, DenotesPrimeMeridian, DenotesGeodeticFrame, DenotesVerticalFrame, DenotesSystem, DenotesAxis, DenotesConversion, DenotesBase, geodetic_keyword}

-- a node whose arguments are a row of the first edition with these fields
abbrev pub IsFirstNode : Keyword → Node → Fields → Bare → Type 0
IsFirstNode = IsNodeIn editions.First

-- ---- the denoted values, a line a slot, in the order of the rows of the first edition

abbrev pub first_usage_fields : Usage → Fields
first_usage_fields v =
    One (DenotesValue keywords.Scope) v.scope
    & Maybe (DenotesValue keywords.Area) v.area
    & Maybe DenotesBoundingBox v.bounding_box
    & nothing

abbrev pub FirstDenotesUsage : Bare → Usage → Type 0
FirstDenotesUsage x v = IsFirstNode keywords.Usage nodes.Usage (first_usage_fields v) x × (v.vertical_extent ≡ None)

abbrev pub first_geodetic_fields : Geodetic → Fields
first_geodetic_fields v =
    One DenotesText v.name
    & One DenotesGeodeticFrame v.datum
    & Maybe DenotesPrimeMeridian v.prime_meridian
    & One DenotesSystem v.system
    & AtLeastOne DenotesAxis v.axes
    & Maybe DenotesUnit v.unit
    & Each FirstDenotesUsage v.usages
    & Each DenotesIdent v.ids
    & Maybe (DenotesValue keywords.Remark) v.remark
    & nothing

abbrev pub FirstDenotesGeodetic : Bare → Geodetic → Type 0
FirstDenotesGeodetic x v = IsFirstNode (geodetic_keyword v.kind) nodes.GeodeticCrs (first_geodetic_fields v) x

abbrev pub first_projected_fields : Projected → Fields
first_projected_fields v =
    One DenotesText v.name
    & One DenotesBase v.base
    & One DenotesConversion v.conversion
    & One DenotesSystem v.system
    & AtLeastOne DenotesAxis v.axes
    & Maybe DenotesUnit v.unit
    & Each FirstDenotesUsage v.usages
    & Each DenotesIdent v.ids
    & Maybe (DenotesValue keywords.Remark) v.remark
    & nothing

abbrev pub FirstDenotesProjected : Bare → Projected → Type 0
FirstDenotesProjected x v = IsFirstNode keywords.ProjectedCrs nodes.ProjectedCrs (first_projected_fields v) x

abbrev pub first_vertical_fields : verticals.Vertical → Fields
first_vertical_fields v =
    One DenotesText v.name
    & One DenotesVerticalFrame v.datum
    & One DenotesSystem v.system
    & AtLeastOne DenotesAxis v.axes
    & Maybe DenotesUnit v.unit
    & Each FirstDenotesUsage v.usages
    & Each DenotesIdent v.ids
    & Maybe (DenotesValue keywords.Remark) v.remark
    & nothing

abbrev pub FirstDenotesVertical : Bare → verticals.Vertical → Type 0
FirstDenotesVertical x v = IsFirstNode keywords.VerticalCrs nodes.VerticalCrs (first_vertical_fields v) x × (v.geoid_models ≡ [])

abbrev pub FirstDenotesSingle : Bare → Single → Type 0
FirstDenotesSingle x (single.Geodetic v) = FirstDenotesGeodetic x v
FirstDenotesSingle x (single.Projected v) = FirstDenotesProjected x v
FirstDenotesSingle x (single.Vertical v) = FirstDenotesVertical x v

abbrev pub first_compound_fields : Compound → Fields
first_compound_fields v =
    One DenotesText v.name
    & One FirstDenotesSingle v.first
    & One FirstDenotesSingle v.second
    & Each FirstDenotesUsage v.usages
    & Each DenotesIdent v.ids
    & Maybe (DenotesValue keywords.Remark) v.remark
    & nothing

abbrev pub FirstDenotesCompound : Bare → Compound → Type 0
FirstDenotesCompound x v = IsFirstNode keywords.CompoundCrs nodes.CompoundCrs (first_compound_fields v) x

abbrev pub FirstDenotesParts : Bare → CrsParts → Type 0
FirstDenotesParts x (parts.Single v) = FirstDenotesSingle x v
FirstDenotesParts x (parts.Compound v) = FirstDenotesCompound x v

-- ---- values that the first edition could spell

-- none of these usages has a vertical extent
abbrev pub HasNoExtents : List Usage → Type 0
HasNoExtents usages = All (λ usage. usage.vertical_extent ≡ None) usages

abbrev pub AddsNothing : Single → Type 0
AddsNothing (single.Geodetic v) = HasNoExtents v.usages
AddsNothing (single.Projected v) = HasNoExtents v.usages
AddsNothing (single.Vertical v) = (v.geoid_models ≡ []) × HasNoExtents v.usages

-- the fields that the second edition adds are empty, in a compound those of its components too
abbrev pub NothingAdded : CrsParts → Type 0
NothingAdded (parts.Single v) = AddsNothing v
NothingAdded (parts.Compound v) = AddsNothing v.first × AddsNothing v.second × HasNoExtents v.usages
