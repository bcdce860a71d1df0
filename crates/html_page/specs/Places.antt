-- The positions of the bytes of a page, for a reader of HTML with `"` around each value, without comments, and in which style and
-- script have no attributes and no `<`. On all else the reader is lost.
use Rattle.std.specs.Prelude.{ℕ, ◌+◌, ◌==◌, nat_le, Bool, not, ◌&&◌, ◌||◌, List, [], ◌∷◌, ◌++◌, codes, Option, Some, None, if◌then◌else◌}
use Rattle.std.specs.List.{list_all}
use Rattle.std.specs.Cmp.Lexicographic.{pointwise}
use Rattle.html_page.specs.Pieces.{Piece, Markup, Text, Lines, Short, Attribute, Numeral}

-- between tags; in the name of a tag, after these bytes of it; in a tag, after these bytes of an attribute; behind the `=` of an
-- attribute; between the quotation marks of a value, after these bytes of the attribute; in a style or a script, which `<` and
-- these bytes end; where exactly these bytes have to follow; lost
pub data Context : Type 0 where
  Content : Context
  Name : List ℕ → Context
  Tag : List ℕ → Context
  Equals : List ℕ → Context
  Quoted : List ℕ → Context
  Raw : List ℕ → Context
  Expects : List ℕ → Context
  Lost : Context

abbrev pub is : List ℕ → List ℕ → Bool
is xs ys = pointwise (λ x y. x == y) xs ys

-- a text may be in the attribute after these bytes of it: an id, or a link within the page
abbrev pub may_hold : List ℕ → Bool
may_hold attribute = is attribute (codes "id=\"") || is attribute (codes "href=\"#")

-- a numeral may be in the attribute after these bytes of it: the lines of a drawing
abbrev pub may_draw : List ℕ → Bool
may_draw attribute = is attribute (codes "d=\"")

-- the content of a tag with this name: bytes that are no HTML in a style or a script
abbrev pub inside : List ℕ → Context
inside name =
    if is name (codes "style") then Raw (codes "/style>") else (
    if is name (codes "script") then Raw (codes "/script>") else Content)

-- a style and a script begin without attributes
abbrev pub attributes_of : List ℕ → Context
attributes_of name = if is name (codes "style") || is name (codes "script") then Lost else Tag []

-- names are the same in capitals
abbrev pub small : ℕ → ℕ
small b = if nat_le 65 b && nat_le b 90 then b + 32 else b

abbrev pub is_letter : ℕ → Bool
is_letter b = (nat_le 97 b && nat_le b 122) || (nat_le 48 b && nat_le b 57)

-- the name of a tag has letters and digits, after a `/` at an end tag. `!` begins the document type
abbrev pub named : List ℕ → ℕ → Context
named [] b = if b == 33 then Expects (codes "DOCTYPE html>") else (if is_letter b || (b == 47) then Name (b ∷ []) else Lost)
named (c ∷ name) b = if is_letter b then Name (c ∷ (name ++ b ∷ [])) else Lost

abbrev pub is_blank : ℕ → Bool
is_blank b = (b == 32) || (b == 10)

-- a quotation mark of either kind, `<`, `/` or a control character
abbrev pub is_stray : ℕ → Bool
is_stray b = nat_le b 31 || ((b == 34) || ((b == 39) || ((b == 60) || (b == 47))))

-- the context after a byte
abbrev pub step : Context → ℕ → Context
step Content b = if b == 60 then Name [] else Content
step (Name n) b = if b == 62 then inside n else (if is_blank b then attributes_of n else named n (small b))
step (Tag a) b = if b == 62 then Content else (if is_blank b then Tag [] else (if b == 61 then Equals a else (if is_stray b then Lost else Tag (a ++ small b ∷ []))))
step (Equals a) b = if b == 34 then Quoted (a ++ codes "=\"") else Lost
step (Quoted a) b = if b == 34 then Tag [] else (if may_hold a || may_draw a then Quoted a else Quoted (a ++ b ∷ []))
step (Raw end) b = if b == 60 then Expects end else Raw end
step (Expects []) b = Lost
step (Expects (c ∷ [])) b = if b == c then Content else Lost
step (Expects (c ∷ d ∷ end)) b = if b == c then Expects (d ∷ end) else Lost
step Lost b = Lost

-- the context after some bytes
abbrev pub after : Context → List ℕ → Context
after p [] = p
after p (b ∷ bs) = after (step p b) bs

-- no byte is `<`
abbrev pub begins_no_tag : List ℕ → Bool
begins_no_tag bytes = list_all (λ b. not (b == 60)) bytes

-- the bytes of the tags, from `<` to `>`, without the values of attributes
abbrev pub tag_byte : Context → ℕ → List ℕ
tag_byte Content b = if b == 60 then b ∷ [] else []
tag_byte (Name n) b = b ∷ []
tag_byte (Tag a) b = b ∷ []
tag_byte (Equals a) b = b ∷ []
tag_byte (Quoted a) b = if b == 34 then b ∷ [] else []
tag_byte (Raw end) b = if b == 60 then b ∷ [] else []
tag_byte (Expects end) b = b ∷ []
tag_byte Lost b = b ∷ []

abbrev pub tags_from : Context → List ℕ → List ℕ
tags_from p [] = []
tags_from p (b ∷ bs) = tag_byte p b ++ tags_from (step p b) bs

abbrev pub tags : List ℕ → List ℕ
tags page = tags_from Content page

-- the context stays, if it is one for texts: between tags, or in a value that may hold one
abbrev pub with_text : Context → Option Context
with_text Content = Some Content
with_text (Name n) = None
with_text (Tag a) = None
with_text (Equals a) = None
with_text (Quoted a) = None
with_text (Raw end) = None
with_text (Expects end) = None
with_text Lost = None

abbrev pub with_value : Context → Option Context
with_value Content = None
with_value (Name n) = None
with_value (Tag a) = None
with_value (Equals a) = None
with_value (Quoted a) = if may_hold a then Some (Quoted a) else None
with_value (Raw end) = None
with_value (Expects end) = None
with_value Lost = None

abbrev pub with_numeral : Context → Option Context
with_numeral Content = None
with_numeral (Name n) = None
with_numeral (Tag a) = None
with_numeral (Equals a) = None
with_numeral (Quoted a) = if may_draw a then Some (Quoted a) else None
with_numeral (Raw end) = None
with_numeral (Expects end) = None
with_numeral Lost = None

-- the context after a piece, if the piece may be here
abbrev pub past : Context → Piece → Option Context
past p (Markup constant) = Some (after p constant)
past p (Text text) = with_text p
past p (Lines text) = with_text p
past p (Short text) = with_text p
past p (Attribute text) = with_value p
past p (Numeral text) = with_numeral p

-- the same for a list of pieces
abbrev pub past_all : Option Context → List Piece → Option Context
past_all here [] = here
past_all None (p ∷ ps) = None
past_all (Some here) (p ∷ ps) = past_all (past here p) ps
