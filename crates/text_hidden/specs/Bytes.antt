-- Hidden characters in the bytes of texts in UTF-8.
use Rattle.std.specs.Prelude.{ℕ, ◌+◌, ◌*◌, ◌%◌, Bool, nat_le, nat_lt, ◌&&◌, List, [], ◌∷◌, Option, Some, None, if◌then◌else◌}
use Rattle.text_hidden.specs.Set.{is_within, is_hidden}
use Rattle.text_hidden.specs.declared.bytes.HiddenCharacter.{HiddenCharacter}

-- the byte continues a character
abbrev pub continues : ℕ → Bool
continues b = is_within 128 191 b

-- the character with this code and so many bytes after the first, if it is hidden
abbrev pub hidden_if : ℕ → ℕ → Option HiddenCharacter
hidden_if code more = if is_hidden code then Some (record { number = code; more = more }) else None

-- the same, if it is at least the first one of so many bytes
abbrev pub hidden_from : ℕ → ℕ → ℕ → Option HiddenCharacter
hidden_from first code more = if nat_le first code then hidden_if code more else None

-- of two bytes, and of three
abbrev pub hidden_of_two : ℕ → List ℕ → Option HiddenCharacter
hidden_of_two b [] = None
hidden_of_two b (c ∷ rest) = if continues c then hidden_from 0x80 (b % 32 * 64 + c % 64) 1 else None

abbrev pub hidden_of_three : ℕ → List ℕ → Option HiddenCharacter
hidden_of_three b [] = None
hidden_of_three b (c ∷ []) = None
hidden_of_three b (c ∷ d ∷ rest) = if continues c && continues d then hidden_from 0x800 (b % 16 * 4096 + c % 64 * 64 + d % 64) 2 else None

-- the character that begins with this byte, before these others, if it is hidden. None of four bytes is
abbrev pub hidden_at : ℕ → List ℕ → Option HiddenCharacter
hidden_at b rest =
    if nat_lt b 128 then hidden_if b 0 else (
    if nat_lt b 192 then None else (
    if nat_lt b 224 then hidden_of_two b rest else (
    if nat_lt b 240 then hidden_of_three b rest else None)))

-- the same for all bytes
abbrev pub first_hidden : List ℕ → Option HiddenCharacter
first_hidden [] = None
first_hidden (b ∷ rest) = hidden_at b rest
