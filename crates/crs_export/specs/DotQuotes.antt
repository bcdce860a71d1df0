-- Labels of DOT, the language of Graphviz.
use Rattle.std.specs.Prelude.{ℕ, Bool, true, false, ◌==◌, ◌&&◌, List, [], ◌∷◌, ◌++◌, codes, if◌then◌else◌}
use Rattle.std.specs.List.{flat_map}
use Rattle.crs_export.specs.Scanned.{Read, read_after}

-- `⟨U+0000⟩`, which is shown for U+0000: a reader of DOT ends a line there
abbrev pub null_mark : List ℕ
null_mark = 226 ∷ 159 ∷ 168 ∷ 85 ∷ 43 ∷ 48 ∷ 48 ∷ 48 ∷ 48 ∷ 226 ∷ 159 ∷ 169 ∷ []

-- a quotation mark and a backslash have a backslash before them, `\n` is a line break, and `&` begins a reference
abbrev pub escaped_byte : ℕ → List ℕ
escaped_byte b =
    if b == 34 then 92 ∷ 34 ∷ [] else (
    if b == 92 then 92 ∷ 92 ∷ [] else (
    if b == 10 then 92 ∷ 110 ∷ [] else (
    if b == 38 then codes "&amp;" else (
    if b == 0 then null_mark else b ∷ []))))

abbrev pub escaped : List ℕ → List ℕ
escaped text = flat_map escaped_byte text

abbrev pub quoted : List ℕ → List ℕ
quoted text = 34 ∷ (escaped text ++ 34 ∷ [])

-- the text with a mark for each U+0000
abbrev pub marked : List ℕ → List ℕ
marked text = flat_map (λ b. if b == 0 then null_mark else b ∷ []) text

-- ---- how a label is shown

-- after a backslash
abbrev pub read_escape : List ℕ → Read
read_escape [] = record { byte = 92; more = 0 }
read_escape (b ∷ rest) = if b == 110 then record { byte = 10; more = 1 } else record { byte = b; more = 1 }

abbrev pub begins_with : List ℕ → List ℕ → Bool
begins_with [] text = true
begins_with (b ∷ bs) [] = false
begins_with (b ∷ bs) (c ∷ cs) = (b == c) && begins_with bs cs

-- after `&`
abbrev pub read_reference : List ℕ → Read
read_reference rest = if begins_with (codes "amp;") rest then record { byte = 38; more = 4 } else record { byte = 38; more = 0 }

abbrev pub read : ℕ → List ℕ → Read
read b rest = if b == 92 then read_escape rest else (if b == 38 then read_reference rest else record { byte = b; more = 0 })

abbrev pub unescaped : List ℕ → List ℕ
unescaped bytes = read_after read 0 bytes
