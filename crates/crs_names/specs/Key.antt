-- An identifier with an odd text, of an authority that is nearly a known one, or with a number that has a sign or leading zeros.
use Rattle.std.specs.Prelude.{ℕ, ◌==◌, nat_le, Bool, false, not, ◌&&◌, ◌||◌, List, [], ◌∷◌, length, codes, if◌then◌else◌}
use Rattle.std.specs.Char.{to_ascii_lowercase}
use Rattle.std.specs.Int.{is_negative}
use Rattle.std.specs.List.{concat, list_all}
use Rattle.std.specs.Str.{bytes_eq}
use Rattle.crs_part.specs.Words.{same_word}
use Rattle.crs_part.specs.declared.identifiers.Ident.{Ident}
use Rattle.crs_part.specs.declared.identifiers.NumberOrText.{NumberOrText}
use Rattle.crs_part.specs.declared.identifiers.NumberOrText.TheVariants.{Number, Text}
use Rattle.crs_value.specs.Keys.{text_of}
use Rattle.crs_names.specs.Name.{is_text_odd}

abbrev pub is_digit : ℕ → Bool
is_digit b = nat_le 48 b && nat_le b 57

-- a sign or a zero, and more digits
abbrev pub is_padded : List ℕ → Bool
is_padded [] = false
is_padded (b ∷ bs) = (b == 43 || b == 45 || b == 48) && not (length bs == 0) && list_all is_digit bs

abbrev pub is_code_odd : NumberOrText → Bool
is_code_odd (Number value) = is_negative value.coefficient
is_code_odd (Text text) = is_text_odd text.bytes || is_padded text.bytes

-- apart from letter case
abbrev pub is_same_letter : ℕ → ℕ → Bool
is_same_letter a b = to_ascii_lowercase a == to_ascii_lowercase b

-- two neighbours are swapped, and the rest is the same
abbrev pub is_swap : List ℕ → List ℕ → Bool
is_swap [] rest = false
is_swap (a ∷ []) rest = false
is_swap (a ∷ b ∷ wanted) [] = false
is_swap (a ∷ b ∷ wanted) (c ∷ []) = false
is_swap (a ∷ b ∷ wanted) (c ∷ d ∷ rest) = is_same_letter a d && is_same_letter b c && same_word wanted rest

-- after one letter of either word, or of both, or after two that are swapped, the rest is the same
abbrev pub is_slip : List ℕ → List ℕ → List ℕ → List ℕ → Bool
is_slip wanted others rest more = same_word others more || same_word others rest || same_word wanted more || is_swap wanted rest

-- two words differ, apart from letter case, by one letter changed, left out or put in, by two neighbours swapped, or not at all
abbrev pub near : List ℕ → List ℕ → Bool
near [] given = nat_le (length given) 1
near (a ∷ known) [] = nat_le (length (a ∷ known)) 1
near (a ∷ known) (b ∷ given) = if is_same_letter a b then near known given else is_slip (a ∷ known) known (b ∷ given) given

abbrev pub is_known : List ℕ → Bool
is_known a =
    bytes_eq a (codes "EPSG")
    || bytes_eq a (codes "ESRI")
    || bytes_eq a (codes "IGNF")
    || bytes_eq a (codes "IAU_2015")
    || bytes_eq a (codes "PROJ")
    || bytes_eq a (codes "OGC")
    || bytes_eq a (codes "NKG")

-- none of the known authorities, but nearly one of them; of those of three letters, one in another letter case
abbrev pub is_near_known : List ℕ → Bool
is_near_known a =
    not (is_known a)
    && (near (codes "EPSG") a
    || near (codes "ESRI") a
    || near (codes "IGNF") a
    || near (codes "IAU_2015") a
    || near (codes "PROJ") a
    || same_word (codes "OGC") a
    || same_word (codes "NKG") a)

abbrev pub is_id_odd : Ident → Bool
is_id_odd id = is_text_odd id.authority.bytes || is_code_odd id.code || is_near_known id.authority.bytes

abbrev pub id_what : Ident → List ℕ
id_what id =
    if is_near_known id.authority.bytes then codes "has an authority that is nearly a known one: EPSG, ESRI, IGNF, OGC, IAU_2015, NKG or PROJ"
    else codes "is empty in part, has odd blanks or hidden characters, or is a number with a sign or leading zeros"

abbrev pub id_said : Ident → List ℕ
id_said id = concat (codes "the identifier \"" ∷ id.authority.bytes ∷ codes "\", \"" ∷ text_of id.code ∷ codes "\" " ∷ id_what id ∷ [])
