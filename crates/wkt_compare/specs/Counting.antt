-- The length of the first text, by a count of open delimiters.
use Rattle.std.specs.Prelude.{ℕ, suc, ◌+◌, ◌-◌, Bool, not, List, [], ◌∷◌, Option, Some, None, nat_le, if◌then◌else◌}
use Rattle.wkt_tree.specs.Tokens.{is_mark}
use Rattle.wkt_compare.specs.Texts.{is_opening, is_closing}

-- the count after a byte outside marks, or none if that byte ends the text
abbrev pub counted : ℕ → ℕ → Option ℕ
counted count b =
    if is_opening b then Some (count + 1)
    else (if is_closing b then (if nat_le count 1 then None else Some (count - 1)) else Some count)

-- one byte, and those after it if the text continues
abbrev pub one_and : (ℕ → ℕ) → Option ℕ → ℕ
one_and others None = 1
one_and others (Some count) = suc (others count)

-- the number of bytes that belong to a text with this many open delimiters, and perhaps an open mark
abbrev pub text_len : ℕ → Bool → List ℕ → ℕ
text_len count quoted [] = 0
text_len count quoted (b ∷ bs) =
    if is_mark b then suc (text_len count (not quoted) bs)
    else (if quoted then suc (text_len count quoted bs)
    else one_and (λ next. text_len next quoted bs) (counted count b))
