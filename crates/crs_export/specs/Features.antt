-- Features of GeoJSON.
use Rattle.std.specs.Prelude.{ℕ, ◌++◌, Bool, true, false, List, [], ◌∷◌, Option, Some, None}
use Rattle.std.specs.List.{flat_map}
use Rattle.crs_part.specs.declared.text.Text.{Text}
use Rattle.crs_part.specs.declared.usages.BoundingBox.{BoundingBox}
use Rattle.crs_part.specs.declared.usages.Usage.{Usage}
use Rattle.crs_export.specs.JsonQuotes.{quoted}
use Rattle.crs_export.specs.declared.title.Title.{Title}
use Rattle.crs_export.specs.declared.markup.TheConstants.{COLLECTION_START, COLLECTION_END, FEATURE_START, BEFORE_ENTRY, BEFORE_AUTHORITY, BEFORE_CODE, BEFORE_NAME, BEFORE_STATUS, BEFORE_SCOPE, BEFORE_AREA, FEATURE_END, NULL}
use Rattle.crs_export.specs.Boxes.{geometry}

-- a property, whose name is in the bytes before it
abbrev pub property : List ℕ → List ℕ → List ℕ
property before value = before ++ quoted value

-- the properties that are those of the entry
abbrev pub of_entry : Title → List ℕ
of_entry t =
    property BEFORE_ENTRY.now t.entry.now ++ property BEFORE_AUTHORITY.now t.authority.now ++ property BEFORE_CODE.now t.code.now
    ++ property BEFORE_NAME.now t.name.now ++ property BEFORE_STATUS.now t.status.now

abbrev pub area_of : Option Text → List ℕ
area_of None = NULL.now
area_of (Some area) = quoted area.bytes

-- and those of a usage
abbrev pub of_usage : Usage → List ℕ
of_usage u = BEFORE_SCOPE.now ++ quoted u.scope.bytes ++ BEFORE_AREA.now ++ area_of u.area

abbrev pub feature : Title → Usage → BoundingBox → List ℕ
feature t u b = FEATURE_START.now ++ geometry b ++ of_entry t ++ of_usage u ++ FEATURE_END.now

abbrev pub with_box : Title → Usage → Option BoundingBox → List (List ℕ)
with_box t u None = []
with_box t u (Some b) = feature t u b ∷ []

-- a feature for each usage with a bounding box
abbrev pub features : Title → List Usage → List (List ℕ)
features t us = flat_map (λ (u : Usage). with_box t u u.bounding_box) us

-- features, with commas between them
abbrev pub after_comma : List ℕ → List ℕ
after_comma f = 44 ∷ f

abbrev pub listed : List (List ℕ) → List ℕ
listed [] = []
listed (f ∷ fs) = f ++ flat_map after_comma fs

-- the same behind other features, or as the first ones
abbrev pub listed_behind : Bool → List (List ℕ) → List ℕ
listed_behind true fs = flat_map after_comma fs
listed_behind false fs = listed fs

abbrev pub are_some : List (List ℕ) → Bool
are_some [] = false
are_some (f ∷ fs) = true

abbrev pub collection : List (List ℕ) → List ℕ
collection fs = COLLECTION_START.now ++ listed fs ++ COLLECTION_END.now
