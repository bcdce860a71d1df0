-- Rows as a collection of features.
use Rattle.std.specs.Prelude.{◌≡◌, ◌++◌, ℕ, List, [], ◌∷◌}
use Rattle.crs_value.specs.declared.crs.Crs.{Crs}
use Rattle.crs_value.specs.Usages.{usages_of}
use Rattle.wkt_crs.specs.Definition.{IsCrsOf}
use Rattle.reg_op.specs.Rows.{Row}
use Rattle.crs_export.specs.declared.title.Title.{Title}
use Rattle.crs_export.specs.Features.{features, listed, collection}
use Rattle.crs_export.specs.declared.markup.TheConstants.{COLLECTION_START}
use Rattle.crs_export.specs.Document.{Described}
use Rattle.reg_export.specs.Titles.{IsTitle, Each}

-- a feature for each usage with a bounding box of the reference system that the row's text spells
pub record AreFeaturesOf (r : Row) (fs : List (List ℕ)) : Type 0 where
  pub title : Title
  pub titled : IsTitle r title
  pub crs : Crs
  pub spelled : IsCrsOf crs r.definition
  pub are : fs ≡ features title (usages_of crs.parts)

-- the collection of the features of some rows
abbrev pub IsGeojson : List Row → List ℕ → Type 0
IsGeojson rs text = (fs : List (List ℕ)) × Each AreFeaturesOf rs fs × (text ≡ collection fs)

-- its beginning: so far the features of some rows stand behind these bytes
abbrev pub BeginsWith : List ℕ → List Row → List ℕ → Type 0
BeginsWith start rs text = (fs : List (List ℕ)) × Each AreFeaturesOf rs fs × (text ≡ start ++ listed fs)

abbrev pub BeginsGeojson : List Row → List ℕ → Type 0
BeginsGeojson rs text = BeginsWith COLLECTION_START.now rs text

-- ---- as other programs read them

-- the title of the row's entry, and the usages of the reference system that its text spells
pub record IsDescribed (r : Row) (d : Described) : Type 0 where
  pub titled : IsTitle r d.title
  pub crs : Crs
  pub spelled : IsCrsOf crs r.definition
  pub usages : d.usages ≡ usages_of crs.parts

-- those of some rows, in order
abbrev pub AreDescribed : List Row → List Described → Type 0
AreDescribed [] ds = ds ≡ []
AreDescribed (r ∷ rs) ds = (d : Described) × (later : List Described) × IsDescribed r d × AreDescribed rs later × (ds ≡ d ∷ later)
