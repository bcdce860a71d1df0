-- Texts of SQL.
use Rattle.std.specs.Prelude.{ℕ, ◌==◌, List, [], ◌∷◌, ◌++◌, if◌then◌else◌}
use Rattle.std.specs.List.{flat_map}

-- a quotation mark is doubled
abbrev pub escaped_byte : ℕ → List ℕ
escaped_byte b = if b == 39 then 39 ∷ 39 ∷ [] else b ∷ []

abbrev pub escaped : List ℕ → List ℕ
escaped text = flat_map escaped_byte text

abbrev pub quoted : List ℕ → List ℕ
quoted text = 39 ∷ (escaped text ++ 39 ∷ [])
