-- Strings of JSON (RFC 8259).
use Rattle.std.specs.Prelude.{ℕ, ◌+◌, ◌-◌, ◌==◌, nat_lt, List, [], ◌∷◌, ◌++◌, if◌then◌else◌}
use Rattle.std.specs.List.{flat_map}

abbrev pub hex_digit : ℕ → ℕ
hex_digit n = if nat_lt n 10 then 48 + n else 87 + n

-- `\u00` and two digits to the base 16, of a byte below 32
abbrev pub control : ℕ → List ℕ
control b = 92 ∷ 117 ∷ 48 ∷ 48 ∷ (if nat_lt b 16 then 48 ∷ hex_digit b ∷ [] else 49 ∷ hex_digit (b - 16) ∷ [])

-- a backslash is put before a quotation mark and a backslash; control characters are written by their number
abbrev pub escaped_byte : ℕ → List ℕ
escaped_byte b =
    if b == 34 then 92 ∷ 34 ∷ [] else (
    if b == 92 then 92 ∷ 92 ∷ [] else (
    if nat_lt b 32 then control b else b ∷ []))

abbrev pub escaped : List ℕ → List ℕ
escaped text = flat_map escaped_byte text

abbrev pub quoted : List ℕ → List ℕ
quoted text = 34 ∷ (escaped text ++ 34 ∷ [])
