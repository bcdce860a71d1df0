-- The first misnamed parameter, one parameter at a time.
use Rattle.std.proofs.Common.{◌≡◌, ℕ, List, ◌∷◌, Option, Some, None, sym, ap, ◌∙◌}
use Rattle.std.specs.Option.{option_or}
use Rattle.crs_part.specs.declared.conversions.Parameter.{Parameter}
use Rattle.crs_conversion.specs.Operation.{misnamed_parameter, first_misnamed}

pub met : (p : Parameter) (ps rest : List Parameter) (t : List ℕ) → rest ≡ p ∷ ps → Some t ≡ misnamed_parameter p → Some t ≡ first_misnamed rest
met p ps rest t r e = sym (ap first_misnamed r ∙ ap (λ o. option_or o (first_misnamed ps)) (sym e))

pub passed : (p : Parameter) (ps rest : List Parameter) → rest ≡ p ∷ ps → None ≡ misnamed_parameter p → first_misnamed rest ≡ first_misnamed ps
passed p ps rest r e = ap first_misnamed r ∙ ap (λ o. option_or o (first_misnamed ps)) (sym e)
