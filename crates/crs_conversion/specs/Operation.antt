-- A method or a parameter under another name than its code has, a parameter that is given twice, or a conversion that lacks a parameter of its method.
use Rattle.std.specs.Prelude.{ℕ, Bool, List, [], ◌∷◌, Option, Some, None, codes, if◌then◌else◌}
use Rattle.std.specs.List.{find, list_any, concat}
use Rattle.std.specs.Option.{option_map, option_or, option_and_then}
use Rattle.crs_part.specs.declared.conversions.Conversion.{Conversion}
use Rattle.crs_part.specs.declared.conversions.Parameter.{Parameter}
use Rattle.crs_part.specs.declared.crs.Projected.{Projected}
use Rattle.crs_part.specs.declared.crs.Single.{Single}
use Rattle.crs_exact.specs.Names.{is_named}
use Rattle.crs_exact.specs.Parts.{projected_in}
use Rattle.crs_exact.specs.Tables.{pieces}
use Rattle.crs_conversion.specs.declared.tables.TheConstants.{METHODS, PARAMETERS}
use Rattle.crs_conversion.specs.Codes.{known, first_name, has_name, needs}
use Rattle.crs_conversion.specs.Needs.{is_missing, parameter_name}

-- a name, and the one that its code has
abbrev pub misnamed_said : List ℕ → List ℕ → List ℕ → List ℕ
misnamed_said what name row = concat (what ∷ codes " \"" ∷ name ∷ codes "\" has the code of \"" ∷ first_name row ∷ codes "\"" ∷ [])

abbrev misnamed_by : List ℕ → List ℕ → List ℕ → Option (List ℕ)
misnamed_by what name row = if has_name row name then None else Some (misnamed_said what name row)

abbrev pub misnamed : List ℕ → List ℕ → Option (List ℕ) → Option (List ℕ)
misnamed what name row = option_and_then (misnamed_by what name) row

abbrev pub misnamed_parameter : Parameter → Option (List ℕ)
misnamed_parameter p = misnamed (codes "the parameter") p.name.bytes (known PARAMETERS.now p.ids)

abbrev pub first_misnamed : List Parameter → Option (List ℕ)
first_misnamed [] = None
first_misnamed (p ∷ ps) = option_or (misnamed_parameter p) (first_misnamed ps)

abbrev pub named_so : List ℕ → Parameter → Bool
named_so name p = is_named name p.name.bytes

-- the first parameter whose name a later one has, too
abbrev pub repeated : List Parameter → Option Parameter
repeated [] = None
repeated (p ∷ ps) = if list_any (named_so p.name.bytes) ps then Some p else repeated ps

abbrev repeated_said : Parameter → List ℕ
repeated_said p = concat (codes "the parameter \"" ∷ p.name.bytes ∷ codes "\" is given twice" ∷ [])

abbrev pub repeated_in : List Parameter → Option (List ℕ)
repeated_in ps = option_map repeated_said (repeated ps)

abbrev pub lacking_said : List ℕ → List ℕ → List ℕ
lacking_said method code = concat (codes "the method \"" ∷ method ∷ codes "\" lacks \"" ∷ parameter_name code ∷ codes "\": each program takes what it likes for it, mostly 0 or 1" ∷ [])

abbrev lacking_by : List ℕ → List Parameter → List ℕ → Option (List ℕ)
lacking_by method ps row = option_map (lacking_said method) (find (is_missing ps) (pieces 44 (needs row)))

-- the first parameter that the method of this row needs and the conversion lacks
abbrev pub lacking : Option (List ℕ) → List ℕ → List Parameter → Option (List ℕ)
lacking row method ps = option_and_then (lacking_by method ps) row

abbrev odd_by : Option (List ℕ) → List ℕ → List Parameter → Option (List ℕ)
odd_by row method ps =
    option_or (misnamed (codes "the method") method row)
    (option_or (first_misnamed ps) (option_or (repeated_in ps) (lacking row method ps)))

-- of the method, of the first such parameter, of the first one that is given twice, or of the first one that is lacking
abbrev pub odd_in : Conversion → Option (List ℕ)
odd_in c = odd_by (known METHODS.now c.method.ids) c.method.name.bytes c.parameters

abbrev conversion_of : Projected → Conversion
conversion_of crs = crs.conversion

abbrev pub operation : Single → Option (List ℕ)
operation crs = option_and_then odd_in (option_map conversion_of (projected_in crs))
