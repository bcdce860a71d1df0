-- The name of the file of a key, and the key of a name.
use Rattle.std.specs.Prelude.{ℕ, zero, suc, ◌+◌, ◌-◌, ◌*◌, ◌/◌, ◌%◌, Bool, not, ◌&&◌, ◌||◌, ◌==◌, nat_lt, List, [], ◌∷◌, ◌++◌, codes, take, length, if◌then◌else◌}
use Rattle.std.specs.List.{flat_map}
use Rattle.reg_export.specs.declared.naming.Capitals.{Capitals}
use Rattle.reg_export.specs.declared.naming.Capitals.TheVariants as capitals

-- ASCII letters, digits, `-` and `.` stay
abbrev pub is_plain : ℕ → Bool
is_plain b =
    (nat_lt 64 b && nat_lt b 91) || ((nat_lt 96 b && nat_lt b 123) || ((nat_lt 47 b && nat_lt b 58) || ((b == 45) || (b == 46))))

abbrev pub hex_digit : ℕ → ℕ
hex_digit n = if nat_lt n 10 then 48 + n else 55 + n

abbrev pub is_capital : ℕ → Bool
is_capital b = nat_lt 64 b && nat_lt b 91

-- whether the byte stays in a name
abbrev pub stays : Capitals → ℕ → Bool
stays capitals.Stay b = is_plain b
stays capitals.Escaped b = is_plain b && not (is_capital b)

-- each other byte becomes `%` and two hexadecimal digits
abbrev pub named_byte : Capitals → ℕ → List ℕ
named_byte c b = if stays c b then b ∷ [] else (37 ∷ hex_digit (b / 16) ∷ hex_digit (b % 16) ∷ [])

abbrev pub named : Capitals → List ℕ → List ℕ
named c text = flat_map (named_byte c) text

-- authority, `_`, code, and `.wkt`
abbrev pub name_with : Capitals → List ℕ → List ℕ → List ℕ
name_with c authority code = named c authority ++ (95 ∷ (named c code ++ codes ".wkt"))

-- the name of a key whose capitals stay
abbrev pub file_name : List ℕ → List ℕ → List ℕ
file_name authority code = name_with capitals.Stay authority code

-- ---- how a name is read

abbrev pub digit_value : ℕ → ℕ
digit_value d = if nat_lt d 65 then d - 48 else d - 55

-- the byte of two digits, of which each has its value
abbrev pub byte_of : (ℕ → ℕ) → List ℕ → ℕ
byte_of value [] = 37
byte_of value (d ∷ []) = 37
byte_of value (d ∷ e ∷ rest) = value d * 16 + value e

abbrev pub byte_at : (ℕ → ℕ) → ℕ → List ℕ → ℕ
byte_at value b rest = if b == 37 then byte_of value rest else b

-- how many of the bytes after it belong to it
abbrev pub more_at : ℕ → ℕ
more_at b = if b == 37 then 2 else 0

-- the same, where the first bytes are digits that were read
abbrev pub read_after : (ℕ → ℕ) → ℕ → List ℕ → List ℕ
read_after value more [] = []
read_after value zero (b ∷ rest) = if b == 95 then [] else byte_at value b rest ∷ read_after value (more_at b) rest
read_after value (suc more) (b ∷ rest) = read_after value more rest

abbrev pub rest_after : ℕ → List ℕ → List ℕ
rest_after more [] = []
rest_after zero (b ∷ rest) = if b == 95 then rest else rest_after (more_at b) rest
rest_after (suc more) (b ∷ rest) = rest_after more rest

abbrev pub without_end : List ℕ → List ℕ
without_end text = take (length text - 4) text

-- the text before `_`, where `%` and two digits are one byte
abbrev pub authority_of : List ℕ → List ℕ
authority_of name = read_after digit_value 0 name

-- the text after `_`, without the last four bytes
abbrev pub code_of : List ℕ → List ℕ
code_of name = without_end (read_after digit_value 0 (rest_after 0 name))

-- ---- bytes of names

abbrev pub is_no_separator : ℕ → Bool
is_no_separator b = not ((b == 47) || (b == 0))

-- ASCII letters, digits, `-`, `.`, `_` and `%`
abbrev pub is_name_byte : ℕ → Bool
is_name_byte b = is_plain b || ((b == 95) || (b == 37))
