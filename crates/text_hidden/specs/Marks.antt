-- Marks in the place of characters.
use Rattle.std.specs.Prelude.{ℕ, ◌+◌, ◌/◌, ◌%◌, Bool, true, nat_lt, not, ◌||◌, ◌≡◌, List, [], ◌∷◌, ◌++◌, if◌then◌else◌}
use Rattle.std.specs.Char.{encode_utf8}
use Rattle.std.specs.List.{flat_map, list_all}
use Rattle.std.specs.Str.{chars}
use Rattle.text_hidden.specs.Set.{is_hidden}

-- a hexadecimal digit
abbrev pub digit : ℕ → ℕ
digit d = if nat_lt d 10 then 48 + d else 55 + d

abbrev pub digits : ℕ → List ℕ
digits c = digit (c / 4096 % 16) ∷ digit (c / 256 % 16) ∷ digit (c / 16 % 16) ∷ digit (c % 16) ∷ []

-- `⟨U+`, the code of a character in four digits to the base 16, and `⟩`
abbrev pub mark : ℕ → List ℕ
mark c = (226 ∷ 159 ∷ 168 ∷ 85 ∷ 43 ∷ []) ++ digits c ++ (226 ∷ 159 ∷ 169 ∷ [])

-- a character as it is shown: as its mark, if it is one of those
abbrev pub shown : (ℕ → Bool) → ℕ → List ℕ
shown marks c = if marks c then mark c else encode_utf8 c

abbrev pub shown_all : (ℕ → Bool) → List ℕ → List ℕ
shown_all marks cs = flat_map (shown marks) cs

-- each hidden character has a mark, but those that are kept
abbrev pub Marks : (ℕ → Bool) → (ℕ → Bool) → Type 0
Marks marks kept = (c : ℕ) → (marks c || (kept c || not (is_hidden c))) ≡ true

-- no character of a text is hidden, but those that are kept
abbrev pub hides_only : (ℕ → Bool) → List ℕ → Bool
hides_only kept text = list_all (λ c. kept c || not (is_hidden c)) (chars text)

-- the same, if none is kept
abbrev pub hides_nothing : List ℕ → Bool
hides_nothing text = list_all (λ c. not (is_hidden c)) (chars text)
