-- Texts in HTML: character references for the characters that have a meaning there.
use Rattle.std.specs.Prelude.{ℕ, zero, suc, Bool, true, false, not, ◌&&◌, ◌||◌, ◌==◌, List, [], ◌∷◌, codes, Option, Some, None, is_some, if◌then◌else◌}
use Rattle.std.specs.List.{flat_map}

-- `&`, `<`, `>` and both quotation marks become references
abbrev pub escaped_byte : ℕ → List ℕ
escaped_byte b =
    if b == 38 then codes "&amp;" else (
    if b == 60 then codes "&lt;" else (
    if b == 62 then codes "&gt;" else (
    if b == 34 then codes "&#34;" else (
    if b == 39 then codes "&#39;" else b ∷ []))))

abbrev pub escaped : List ℕ → List ℕ
escaped text = flat_map escaped_byte text

-- ---- how a browser reads a text

abbrev pub begins_with : List ℕ → List ℕ → Bool
begins_with [] text = true
begins_with (b ∷ bs) [] = false
begins_with (b ∷ bs) (c ∷ cs) = (b == c) && begins_with bs cs

-- a byte, and how many more bytes its reference has
pub record Reference : Type 0 where
  pub byte : ℕ
  pub more : ℕ

-- the reference of an `&` that is before these bytes
abbrev pub reference : List ℕ → Option Reference
reference rest =
    if begins_with (codes "amp;") rest then Some (record { byte = 38; more = 4 }) else (
    if begins_with (codes "lt;") rest then Some (record { byte = 60; more = 3 }) else (
    if begins_with (codes "gt;") rest then Some (record { byte = 62; more = 3 }) else (
    if begins_with (codes "#34;") rest then Some (record { byte = 34; more = 4 }) else (
    if begins_with (codes "#39;") rest then Some (record { byte = 39; more = 4 }) else None))))

abbrev pub reference_at : ℕ → List ℕ → Option Reference
reference_at b rest = if b == 38 then reference rest else None

abbrev pub byte_of : ℕ → Option Reference → ℕ
byte_of b None = b
byte_of b (Some r) = r.byte

abbrev pub more_of : Option Reference → ℕ
more_of None = 0
more_of (Some r) = r.more

-- the same, where the first bytes belong to a reference that was read
abbrev pub unescaped_after : ℕ → List ℕ → List ℕ
unescaped_after more [] = []
unescaped_after zero (b ∷ rest) = byte_of b (reference_at b rest) ∷ unescaped_after (more_of (reference_at b rest)) rest
unescaped_after (suc more) (b ∷ rest) = unescaped_after more rest

-- references are read as their bytes
abbrev pub unescaped : List ℕ → List ℕ
unescaped html = unescaped_after 0 html

-- ---- bytes that no escaped text has

-- `<`, `>` and quotation marks are in no text, and `&` begins a reference
abbrev pub is_inert_at : ℕ → List ℕ → Bool
is_inert_at b rest =
    if b == 38 then is_some (reference rest)
    else not ((b == 60) || ((b == 62) || ((b == 34) || (b == 39))))

abbrev pub is_inert : List ℕ → Bool
is_inert [] = true
is_inert (b ∷ rest) = is_inert_at b rest && is_inert rest
