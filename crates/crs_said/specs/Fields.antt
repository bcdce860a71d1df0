-- The fields of which a text is made. A field ends with the byte 255, which no UTF-8 text has.
use Rattle.std.specs.Prelude.{ℕ, Bool, List, [], ◌∷◌, ◌++◌, map, Option, Some, None, decimal, if◌then◌else◌}
use Rattle.std.specs.List.{flat_map}
use Rattle.crs_number.specs.Canonical.{canonical}
use Rattle.crs_number.specs.declared.decimals.Decimal.{Decimal}
use Rattle.crs_exact.specs.Names.{plain}

abbrev pub ended : List ℕ → List ℕ
ended bytes = bytes ++ 255 ∷ []

-- A to Z as a to z, and underscores as blanks
abbrev pub folded : List ℕ → List ℕ
folded bytes = map plain bytes

-- a name that counts: as it is spelled, or folded
abbrev pub name_field : Bool → List ℕ → List ℕ
name_field exact name = ended (if exact then name else folded name)

-- a name that counts only as it is spelled
abbrev pub label_field : Bool → List ℕ → List ℕ
label_field exact name = if exact then ended name else []

abbrev pub number_field : Decimal → List ℕ
number_field d = ended (canonical d.coefficient d.exponent)

abbrev pub count_field : ℕ → List ℕ
count_field n = ended (decimal n)

-- a plus and what is there, or an empty field
abbrev pub maybe_field : {A : Type 0} → (A → List ℕ) → Option A → List ℕ
maybe_field f None = 255 ∷ []
maybe_field f (Some x) = 43 ∷ f x

-- a plus before each item
abbrev pub after_plus : {A : Type 0} → (A → List ℕ) → A → List ℕ
after_plus f x = 43 ∷ f x

-- the items of a list, and an empty field
abbrev pub each_field : {A : Type 0} → (A → List ℕ) → List A → List ℕ
each_field f xs = ended (flat_map (after_plus f) xs)
