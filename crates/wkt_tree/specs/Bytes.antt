-- The tokens of which a byte may be a part.
use Rattle.std.specs.Prelude.{ℕ, Bool, Option, Some, None, ◌==◌, ◌||◌, if◌then◌else◌}
use Rattle.std.specs.Char.{is_ascii_digit, is_ascii_alphabetic}
use Rattle.crs_number.specs.Bytes.{begins_numeral, is_numeral_byte}
use Rattle.wkt_tree.specs.declared.token.Delimiter.TheVariants.{Square, Round}
use Rattle.wkt_tree.specs.declared.token.TokenKind.{TokenKind}
use Rattle.wkt_tree.specs.declared.token.TokenKind.TheVariants.{Word, Quoted, Number, Comma, Open, Close}

-- space, tab, CR, LF
abbrev pub is_blank : ℕ → Bool
is_blank b = b == 32 || b == 9 || b == 13 || b == 10

-- a letter, a digit or `_`
abbrev pub is_word_byte : ℕ → Bool
is_word_byte b = is_ascii_alphabetic b || is_ascii_digit b || b == 95

-- a digit, `+`, `-` or `.`
abbrev pub begins_number : ℕ → Bool
begins_number b = begins_numeral b

-- one of these, `E` or `e`
abbrev pub is_number_byte : ℕ → Bool
is_number_byte b = is_numeral_byte b

-- which token the byte begins
unfoldable pub begun_by : ℕ → Option TokenKind
begun_by b =
    if is_ascii_alphabetic b then Some Word
    else (if begins_number b then Some Number
    else (if b == 34 then Some Quoted
    else (if b == 44 then Some Comma
    else (if b == 91 then Some (Open Square)
    else (if b == 93 then Some (Close Square)
    else (if b == 40 then Some (Open Round)
    else (if b == 41 then Some (Close Round)
    else None)))))))
