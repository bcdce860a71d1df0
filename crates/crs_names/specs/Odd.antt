-- What is odd about a name, an identifier or a unit.
use Rattle.std.specs.Prelude.{ℕ, List, [], ◌∷◌, Option, Some, None, if◌then◌else◌}
use Rattle.std.specs.Option.{option_or}
use Rattle.crs_part.specs.declared.text.Text.{Text}
use Rattle.crs_names.specs.declared.odd.Seek.{Seek}
use Rattle.crs_names.specs.declared.odd.Seek.TheVariants as seek
use Rattle.crs_names.specs.Nodes.{Part, name_of, OfId, OfUnit}
use Rattle.crs_names.specs.Name.{is_text_odd, name_said}
use Rattle.crs_names.specs.Key.{is_id_odd, id_said}
use Rattle.crs_names.specs.Unit.{is_unit_odd, unit_said}

abbrev pub odd_text : Option Text → Option (List ℕ)
odd_text None = None
odd_text (Some t) = if is_text_odd t.bytes then Some (name_said t) else None

abbrev pub odd_name : Part → Option (List ℕ)
odd_name part = odd_text (name_of part)

abbrev pub odd_id : Part → Option (List ℕ)
odd_id (OfId x) = if is_id_odd x then Some (id_said x) else None
odd_id _ = None

abbrev pub odd_unit : Part → Option (List ℕ)
odd_unit (OfUnit x) = if is_unit_odd x then Some (unit_said x) else None
odd_unit _ = None

-- the sentence about a node, if it is odd
abbrev pub odd : Seek → Part → Option (List ℕ)
odd seek.Names = odd_name
odd seek.Ids = odd_id
odd seek.Units = odd_unit

-- about the first of some
abbrev pub first_odd : Seek → List Part → Option (List ℕ)
first_odd s [] = None
first_odd s (p ∷ ps) = option_or (odd s p) (first_odd s ps)
