-- Texts with marks in the place of characters that a reader cannot see.
use Rattle.std.specs.Prelude.{ℕ, zero, suc, Bool, true, false, ◌&&◌, ◌==◌, List, [], ◌∷◌, ◌++◌, Option, Some, None, is_none, if◌then◌else◌}
use Rattle.text_hidden.specs.Bytes.{hidden_at}
use Rattle.text_hidden.specs.Marks.{mark}
use Rattle.text_hidden.specs.declared.bytes.HiddenCharacter.{HiddenCharacter}
use Rattle.html_page.specs.declared.marks.Feeds.{Feeds}
use Rattle.html_page.specs.declared.marks.Feeds.TheVariants.{Marked, Kept}

abbrev pub keeps_feeds : Feeds → Bool
keeps_feeds Marked = false
keeps_feeds Kept = true

-- a line feed that is kept
abbrev pub is_kept : Feeds → ℕ → Bool
is_kept feeds b = (b == 10) && keeps_feeds feeds

-- the character with which a text begins, if it is marked: a hidden one that is not kept
abbrev pub marked_at : Feeds → ℕ → List ℕ → Option HiddenCharacter
marked_at feeds b rest = if is_kept feeds b then None else hidden_at b rest

abbrev pub shown : ℕ → Option HiddenCharacter → List ℕ
shown b None = b ∷ []
shown b (Some hidden) = mark hidden.number

abbrev pub more_of : Option HiddenCharacter → ℕ
more_of None = 0
more_of (Some hidden) = hidden.more

-- the same, where the first bytes belong to a character that was marked
abbrev pub marked_after : Feeds → ℕ → List ℕ → List ℕ
marked_after feeds more [] = []
marked_after feeds zero (b ∷ rest) = shown b (marked_at feeds b rest) ++ marked_after feeds (more_of (marked_at feeds b rest)) rest
marked_after feeds (suc more) (b ∷ rest) = marked_after feeds more rest

-- a text with marks
abbrev pub marked : Feeds → List ℕ → List ℕ
marked feeds text = marked_after feeds 0 text

-- no character of it is marked
abbrev pub has_none : Feeds → List ℕ → Bool
has_none feeds [] = true
has_none feeds (b ∷ rest) = is_none (marked_at feeds b rest) && has_none feeds rest
