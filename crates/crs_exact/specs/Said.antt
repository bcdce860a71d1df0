-- What a rule finds, and its sentence.
use Rattle.std.specs.Prelude.{ℕ, List, [], ◌∷◌, Option, Some, None, codes, decimal}
use Rattle.std.specs.List.{concat, flat_map}
use Rattle.std.specs.Option.{option_map}
use Rattle.crs_number.specs.Canonical.{canonical}
use Rattle.crs_part.specs.declared.units.Unit.{Unit}
use Rattle.crs_part.specs.declared.conversions.Parameter.{Parameter}
use Rattle.crs_exact.specs.Parts.{unit_of}
use Rattle.crs_exact.specs.declared.finding.Piece.{Piece}
use Rattle.crs_exact.specs.declared.finding.Piece.TheVariants.{Text, Number, Count}
use Rattle.crs_exact.specs.declared.finding.Finding.{Finding}

-- the name of a unit, or nothing
abbrev pub unit_said : Option Unit → List ℕ
unit_said None = []
unit_said (Some unit) = (unit_of unit).name.bytes

-- a parameter with its value and its unit, and what is odd about it
abbrev pub parameter_said : Parameter → List ℕ → List ℕ
parameter_said p what =
    concat
    (codes "\""
    ∷ p.name.bytes
    ∷ codes "\" is "
    ∷ canonical p.value.coefficient p.value.exponent
    ∷ codes " "
    ∷ unit_said p.unit
    ∷ codes ": "
    ∷ what
    ∷ [])

abbrev pub piece_said : Piece → List ℕ
piece_said (Text words) = words.now
piece_said (Number n) = canonical n.now.coefficient n.now.exponent
piece_said (Count n) = decimal n

abbrev pub pieces_said : List Piece → List ℕ
pieces_said pieces = flat_map piece_said pieces

abbrev pub about : Option Parameter → List ℕ → List ℕ
about None what = what
about (Some p) what = parameter_said p what

-- in so many words, or of a parameter
abbrev pub sentence : Finding → List ℕ
sentence finding = about (option_map (λ p. p.now) finding.parameter) (pieces_said finding.pieces)
