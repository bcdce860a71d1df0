-- Texts as they are shown to people.
use Rattle.std.specs.Prelude.{ℕ, nat_lt, Bool, List, [], ◌∷◌, ◌++◌, length, take, if◌then◌else◌, chars}
use Rattle.std.specs.Char.{encode_utf8}
use Rattle.std.specs.List.{flat_map}
use Rattle.std.specs.Str.Lossy.{utf8_lossy}
use Rattle.text_hidden.specs.Set.{is_hidden}
use Rattle.text_hidden.specs.Marks.{mark}

-- a character as it is shown: with a mark in the place of a hidden one
abbrev pub shown : ℕ → List ℕ
shown c = if is_hidden c then mark c else encode_utf8 c

-- the most characters of a text that are shown
abbrev pub most : ℕ
most = 200

-- U+2026 behind a text that is cut
abbrev pub ellipsis_if : Bool → List ℕ
ellipsis_if cut = if cut then 226 ∷ 128 ∷ 166 ∷ [] else []

-- the first of these characters, with marks in place of those
abbrev pub shown_of : List ℕ → List ℕ
shown_of cs = flat_map shown (take most cs) ++ ellipsis_if (nat_lt most (length cs))

-- the characters of a text as they are shown; bytes that are not UTF-8 are U+FFFD
abbrev pub marked : List ℕ → List ℕ
marked text = shown_of (chars (utf8_lossy text))
