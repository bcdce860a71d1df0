-- A name that is empty, or has odd blanks or hidden characters.
use Rattle.std.specs.Prelude.{ℕ, ◌==◌, Bool, true, ◌&&◌, ◌||◌, List, [], ◌∷◌, codes}
use Rattle.std.specs.List.{concat}
use Rattle.std.specs.Option.{is_some}
use Rattle.crs_part.specs.declared.text.Text.{Text}
use Rattle.text_hidden.specs.Bytes.{hidden_at}

abbrev pub is_blank : ℕ → Bool
is_blank b = b == 32

-- a hidden character begins with this byte, before these others
unfoldable pub begins_hidden : ℕ → List ℕ → Bool
begins_hidden b rest = is_some (hidden_at b rest)

-- behind a blank, or behind none: a hidden character, a second blank, or a blank at the end
abbrev pub odd_after : Bool → List ℕ → Bool
odd_after blank [] = blank
odd_after blank (b ∷ bs) = (begins_hidden b bs || (blank && is_blank b)) || odd_after (is_blank b) bs

-- empty, with a blank at an end, with two blanks in a row, or with a hidden character
abbrev pub is_text_odd : List ℕ → Bool
is_text_odd text = odd_after true text

abbrev pub name_said : Text → List ℕ
name_said name = concat (codes "the name \"" ∷ name.bytes ∷ codes "\" is empty, or has a blank at an end, two blanks in a row, or a hidden character" ∷ [])
