-- The first text in quotation marks.
use Rattle.std.specs.Prelude.{◌≡◌, ℕ, Bool, true, false, List, [], ◌∷◌, ◌++◌, Option, Some, None, option_map, if◌then◌else◌}
use Rattle.std.specs.Option.{unwrap_or}
use Rattle.std.specs.Str.Lossy.{utf8_lossy}
use Rattle.wkt_tree.specs.Tokens.{is_mark}

-- the text up to the closing mark, with each doubled mark as one; whether the byte before these was a mark that may close it
abbrev pub quoted : Bool → List ℕ → Option (List ℕ)
quoted false [] = None
quoted true [] = Some []
quoted false (b ∷ bs) = if is_mark b then quoted true bs else option_map (λ t. b ∷ t) (quoted false bs)
quoted true (b ∷ bs) = if is_mark b then option_map (λ t. b ∷ t) (quoted false bs) else Some []

-- the first text in quotation marks, or nothing
abbrev pub first_quoted : List ℕ → List ℕ
first_quoted [] = []
first_quoted (b ∷ bs) = if is_mark b then unwrap_or (quoted false bs) [] else first_quoted bs

-- the same as UTF-8: each run of bytes that begins a character but is none, and each other byte that is no UTF-8, is U+FFFD
abbrev pub shown_quoted : List ℕ → List ℕ
shown_quoted text = utf8_lossy (first_quoted text)

-- one more byte: the text ended before it, or it is a byte of the text or a mark
abbrev pub Quotes : Bool → ℕ → List ℕ → List ℕ → Option Bool → Type 0
Quotes marked b old new None = (new ≡ old) × ((rest : List ℕ) → quoted marked (b ∷ rest) ≡ Some [])
Quotes marked b old new (Some next) = (rest : List ℕ) → option_map (λ t. old ++ t) (quoted marked (b ∷ rest)) ≡ option_map (λ t. new ++ t) (quoted next rest)
