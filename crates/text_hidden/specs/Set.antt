-- The characters that are hidden, by their codes. Categories are those of Unicode 14.0.
use Rattle.std.specs.Prelude.{ℕ, Bool, nat_le, ◌&&◌, ◌||◌}

abbrev pub is_within : ℕ → ℕ → ℕ → Bool
is_within first last c = nat_le first c && nat_le c last

-- control characters: all of the category Cc
abbrev pub is_control : ℕ → Bool
is_control c = nat_le c 0x1F || is_within 0x7F 0x9F c

-- the blank without a width, the non-joiner and the joiner; of the category Cf
abbrev pub has_no_width : ℕ → Bool
has_no_width c = is_within 0x200B 0x200D c

-- the separators of lines and paragraphs: all of the categories Zl and Zp
abbrev pub ends_line : ℕ → Bool
ends_line c = is_within 0x2028 0x2029 c

-- marks, embeddings, overrides and isolates that change the direction of a text; of the category Cf
abbrev pub turns : ℕ → Bool
turns c = is_within 0x200E 0x200F c || (is_within 0x202A 0x202E c || is_within 0x2066 0x2069 c)

abbrev pub is_hidden : ℕ → Bool
is_hidden c = is_control c || (has_no_width c || (ends_line c || turns c))
