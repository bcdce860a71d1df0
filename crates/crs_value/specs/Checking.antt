-- The conditions of a whole coordinate reference system, in the order in which they are checked.
use Rattle.std.specs.Prelude.{◌≡◌, ℕ, Bool, true, not, ◌&&◌, List, [], ◌∷◌, ◌++◌, map, Option, codes}
use Rattle.std.specs.List.{find}
use Rattle.crs_part.specs.Slots.{system_of, axes_of, common_unit_of}
use Rattle.crs_part.specs.declared.crs.Single.{Single}
use Rattle.crs_part.specs.declared.crs.Compound.{Compound}
use Rattle.crs_part.specs.declared.crs.CrsParts.{CrsParts}
use Rattle.crs_part.specs.declared.crs.CrsParts.TheVariants as parts
use Rattle.crs_value.specs.Conditions.{has_axis_a_dimension, may_have_system, has_units, has_orders, units_fit, may_be_first, may_be_second, has_sizes, has_own_sizes, has_meridians}
use Rattle.crs_value.specs.declared.broken.Condition.{Condition}
use Rattle.crs_value.specs.declared.broken.Condition.TheVariants.{C1, C2, C3, C4, C5, C6, C7, C8}
use Rattle.crs_value.specs.declared.broken.Whose.{Whose}
use Rattle.crs_value.specs.declared.broken.Whose.TheVariants.{First, Second, Whole}
use Rattle.crs_value.specs.declared.broken.Broken.{Broken}

-- the name of a condition, as it is printed
abbrev pub name_of : Condition → List ℕ
name_of C1 = codes "C1"
name_of C2 = codes "C2"
name_of C3 = codes "C3"
name_of C4 = codes "C4"
name_of C5 = codes "C5"
name_of C6 = codes "C6"
name_of C7 = codes "C7"
name_of C8 = codes "C8"

-- whether a condition holds of a system of one part; the one on components says nothing of it
abbrev pub holds : Single → Condition → Bool
holds crs C1 = has_axis_a_dimension (system_of crs) (axes_of crs)
holds crs C2 = may_have_system crs
holds crs C3 = has_units (axes_of crs) (common_unit_of crs)
holds crs C4 = has_orders (axes_of crs)
holds crs C5 = units_fit (system_of crs).kind (axes_of crs) (common_unit_of crs)
holds crs C6 = true
holds crs C7 = has_sizes crs
holds crs C8 = has_meridians (axes_of crs)

-- whether it holds of a compound itself: of which components it has, and of the units of its usages
abbrev pub holds_of_compound : Compound → Condition → Bool
holds_of_compound crs C6 = may_be_first crs.first && may_be_second crs.second
holds_of_compound crs C7 = has_own_sizes crs
holds_of_compound crs _ = true

-- the condition holds for the system that it is about; without components, every condition holds for them
abbrev pub holds_in : CrsParts → Whose → Condition → Bool
holds_in (parts.Single crs) Whole condition = holds crs condition
holds_in (parts.Single crs) _ condition = true
holds_in (parts.Compound crs) First condition = holds crs.first condition
holds_in (parts.Compound crs) Second condition = holds crs.second condition
holds_in (parts.Compound crs) Whole condition = holds_of_compound crs condition

abbrev pub HasConditions : CrsParts → Type 0
HasConditions crs = (whose : Whose) (condition : Condition) → holds_in crs whose condition ≡ true

abbrev pub conditions : List Condition
conditions = C1 ∷ C2 ∷ C3 ∷ C4 ∷ C5 ∷ C6 ∷ C7 ∷ C8 ∷ []

abbrev pub each_of : Whose → List Broken
each_of who = map (λ which. record { whose = who; condition = which }) conditions

-- all that is checked, in order
abbrev pub checks : List Broken
checks = each_of First ++ each_of Second ++ each_of Whole

-- the first of them that fails
unfoldable pub first_broken : CrsParts → Option Broken
first_broken crs = find (λ check. not (holds_in crs check.whose check.condition)) checks
