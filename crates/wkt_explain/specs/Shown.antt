-- A line as it is shown, with a caret under one of its places.
use Rattle.std.specs.Prelude.{ℕ, zero, suc, ◌-◌, ◌==◌, ◌||◌, Bool, false, List, [], ◌∷◌, ◌++◌, length, take, drop, min, max, nat_lt, is_some, if◌then◌else◌}
use Rattle.std.specs.List.{flat_map}
use Rattle.text_hidden.specs.Bytes.{hidden_at}

-- a tab is shown as a blank, and what can't be shown as a question mark
abbrev pub shown_byte : ℕ → ℕ
shown_byte b = if b == 9 then 32 else (if nat_lt b 32 || nat_lt 126 b then 63 else b)

-- the character is one of those that a reader does not see, or that act on a terminal or on other characters
abbrev pub is_hidden : List ℕ → Bool
is_hidden [] = false
is_hidden (b ∷ rest) = is_some (hidden_at b rest)

-- a character of several bytes is shown as it is, or as a question mark if it is hidden
abbrev pub shown_char : List ℕ → List ℕ
shown_char [] = []
shown_char (b ∷ []) = shown_byte b ∷ []
shown_char (b ∷ c ∷ cs) = if is_hidden (b ∷ c ∷ cs) then 63 ∷ [] else b ∷ c ∷ cs

abbrev pub shown : List (List ℕ) → List ℕ
shown cs = flat_map shown_char cs

abbrev pub blanks : ℕ → List ℕ
blanks zero = []
blanks (suc n) = 32 ∷ blanks n

-- the number of characters shown before a place, given the numbers before it and from it on: at most 80 in total,
-- including the place, and at least 40 from it on, if the line is that long
abbrev pub shown_before : ℕ → ℕ → ℕ
shown_before before after = min before (80 - max (min after 40) 1)

-- the last n of some characters and the first of others, and a caret under the first of those
abbrev pub around : ℕ → List (List ℕ) → List (List ℕ) → List ℕ
around n before after = shown (drop (length before - n) before) ++ shown (take (80 - n) after) ++ 10 ∷ [] ++ blanks n ++ 94 ∷ 10 ∷ []

-- the line of a place, from its parts before the place and from it on
abbrev pub shown_lines : List (List ℕ) → List (List ℕ) → List ℕ
shown_lines before after = around (shown_before (length before) (length after)) before after
