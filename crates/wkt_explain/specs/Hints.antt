-- Hints for common mistakes.
use Rattle.std.specs.Prelude.{ℕ, ◌-◌, ◌==◌, nat_lt, slice_index, ◌||◌, ◌&&◌, Bool, false, not, List, [], ◌∷◌, length, take, drop, codes, nat_eq, Option, Some, None, if◌then◌else◌}
use Rattle.std.specs.List.{prefix_len, starts_with}
use Rattle.std.specs.Char.{is_ascii_alphabetic, is_ascii_digit}
use Rattle.crs_part.specs.Words.{same_word}
use Rattle.wkt_grammar.specs.declared.table.Keyword.TheVariants as keywords
use Rattle.wkt_grammar.specs.Words.{spelling}
use Rattle.wkt_tree.specs.Bytes.{is_blank, is_word_byte}
use Rattle.wkt_tree.specs.declared.fault.TextFault.{TextFault}
use Rattle.wkt_tree.specs.declared.fault.TextFault.TheVariants.{NotUtf8, After, BadByte, BadNumber}
use Rattle.wkt_grammar.specs.declared.fault.SlotFault.TheVariants.{NotHere, Missing, NotCount, WordUnknown}
use Rattle.wkt_crs.specs.declared.fault.Unspelled.TheVariants.{Text, Slot, Broken}
use Rattle.wkt_crs.specs.declared.definition.DefinitionFault.{DefinitionFault}
use Rattle.wkt_crs.specs.declared.definition.DefinitionFault.TheVariants as fault
use Rattle.wkt_explain.specs.declared.hints.Hint.{Hint}
use Rattle.wkt_explain.specs.declared.hints.Hint.TheVariants as hints

-- the sentence of a hint
abbrev pub hint_text : Hint → List ℕ
hint_text hints.Empty = codes "the text is empty"
hint_text hints.ByteOrderMark = codes "the text begins with a byte order mark: save it without one"
hint_text hints.Utf16 = codes "this is UTF-16: save the text as UTF-8"
hint_text hints.OwnFile = codes "this is a file of crsreg, such as a register: crsreg texts prints the texts of one"
hint_text hints.Packed = codes "this file is packed: unpack it, as with gunzip or unzip"
hint_text hints.Latin = codes "this may be Latin-1 or Windows-1252: save the text as UTF-8"
hint_text hints.ProjJson = codes "this is JSON, perhaps PROJJSON: projinfo @FILE -o WKT2:2019 -q prints its WKT"
hint_text hints.Gml = codes "this is XML, perhaps GML: projinfo CODE -o WKT2:2019 -q prints the WKT of its identifier"
hint_text hints.ProjString = codes "this is a string of PROJ: its WKT is wanted, as of projinfo -o WKT2:2019"
hint_text hints.Heading = codes "the text begins with a heading of projinfo: call it with -o WKT2:2019 -q"
hint_text hints.Code = codes "this is a code, not a text: projinfo CODE -o WKT2:2019 -q prints its WKT"
hint_text hints.Urn = codes "this is a name of OGC, not a text: projinfo NAME -o WKT2:2019 -q prints its WKT"
hint_text hints.Row = codes "this may be a row of a table: only the text is wanted, without the quotation marks around it and with \" for each \"\""
hint_text hints.Quotation = codes "this is a typographic quotation mark: write \" in its place"
hint_text hints.WideBlank = codes "this is a no-break space, or another character that looks like a blank: write a blank in its place"
hint_text hints.Mail = codes "the line begins with > as in a mail: leave that out"
hint_text hints.Comma = codes "this may be a decimal comma: write a point in its place, as in 298.257"
hint_text hints.OtherSystem = codes "this may be good WKT 2, but engineering, bound, temporal and parametric systems are not kept here"
hint_text hints.Operation = codes "this may be good WKT 2, but operations and coordinate metadata are not kept here"
hint_text hints.Derived = codes "this may be good WKT 2, but derived systems are not kept here"
hint_text hints.TimeExtent = codes "a TIMEEXTENT is not kept here: leave it out"
hint_text hints.Triaxial = codes "an ellipsoid of three axes is not kept here: ELLIPSOID has two"
hint_text hints.Wkt1 = codes "this is WKT 1: WKT 2 is wanted, as of projinfo -o WKT2:2019"
hint_text hints.OutsideUsage = codes "here WKT of 2015 has it: WKT of 2019 puts SCOPE, AREA, BBOX and VERTICALEXTENT into a USAGE"
hint_text hints.UnitFirst = codes "PRIMEM stands before the unit: the simplified form of PROJ has them the other way round"
hint_text hints.Dynamic = codes "systems of a dynamic datum are not read"
hint_text hints.TwoTexts = codes "one text is read here: import reads files of many"
hint_text hints.NoIdentifier = codes "put an ID[\"AUTHORITY\",\"CODE\"] before the last delimiter; a REMARK comes after it"

-- the bytes begin with these
abbrev pub begins : List ℕ → List ℕ → Bool
begins front bytes = starts_with nat_eq bytes front

abbrev pub behind_blanks : List ℕ → List ℕ
behind_blanks text = drop (prefix_len is_blank text) text

abbrev pub front_word : List ℕ → List ℕ
front_word bytes = take (prefix_len is_word_byte bytes) bytes

abbrev pub behind_word : List ℕ → List ℕ
behind_word bytes = drop (prefix_len is_word_byte bytes) bytes

-- the word that begins at a place
abbrev pub word_at : List ℕ → ℕ → List ℕ
word_at text place = front_word (drop place text)

abbrev pub is_wkt1 : List ℕ → Bool
is_wkt1 word = same_word (codes "PROJCS") word || same_word (codes "GEOGCS") word || same_word (codes "GEOCCS") word || same_word (codes "VERT_CS") word || same_word (codes "VERTCS") word
    || same_word (codes "COMPD_CS") word || same_word (codes "LOCAL_CS") word || same_word (codes "FITTED_CS") word

abbrev pub is_extent : List ℕ → Bool
is_extent word = same_word (spelling keywords.Scope) word || same_word (spelling keywords.Area) word || same_word (spelling keywords.BoundingBox) word || same_word (spelling keywords.VerticalExtent) word

abbrev pub is_base : List ℕ → Bool
is_base word = same_word (spelling keywords.BaseGeographicCrs) word || same_word (spelling keywords.BaseGeodeticCrs) word

-- kinds of systems of WKT 2 that are not kept
abbrev pub is_other_system : List ℕ → Bool
is_other_system word = same_word (codes "ENGCRS") word || same_word (codes "ENGINEERINGCRS") word || same_word (codes "BOUNDCRS") word || same_word (codes "TIMECRS") word
    || same_word (codes "PARAMETRICCRS") word || same_word (codes "IMAGECRS") word

abbrev pub is_operation : List ℕ → Bool
is_operation word = same_word (codes "COORDINATEOPERATION") word || same_word (codes "CONCATENATEDOPERATION") word || same_word (codes "POINTMOTIONOPERATION") word
    || same_word (codes "COORDINATEMETADATA") word

-- a derived system, or a part that only derived systems have
abbrev pub is_derived : List ℕ → Bool
is_derived word = same_word (codes "DERIVEDPROJCRS") word || same_word (codes "DERIVINGCONVERSION") word || same_word (codes "BASEPROJCRS") word || same_word (codes "BASEVERTCRS") word
    || same_word (codes "BASEENGCRS") word

-- for a word of WKT 2 that is not read at all, or not in this node
abbrev pub kind_hint : List ℕ → List ℕ → Option Hint
kind_hint word node =
    if is_other_system word then Some hints.OtherSystem
    else (if is_operation word then Some hints.Operation
    else (if is_derived word || (is_base word && not (same_word (spelling keywords.ProjectedCrs) node)) then Some hints.Derived
    else None))

-- for a part that stands elsewhere
abbrev pub order_hint : List ℕ → List ℕ → Option Hint
order_hint word node =
    if is_extent word && not (same_word (spelling keywords.Usage) node) then Some hints.OutsideUsage
    else (if same_word (spelling keywords.PrimeMeridian) word && is_base node then Some hints.UnitFirst
    else kind_hint word node)

-- for a part that is not kept, or that stands elsewhere
abbrev pub part_hint : List ℕ → List ℕ → Option Hint
part_hint word node =
    if same_word (codes "TIMEEXTENT") word then Some hints.TimeExtent
    else (if same_word (codes "TRIAXIAL") word then Some hints.Triaxial
    else order_hint word node)

-- for a word that a node does not take
abbrev pub word_hint : List ℕ → List ℕ → Option Hint
word_hint word node =
    if is_wkt1 word then Some hints.Wkt1
    else (if same_word (codes "DYNAMIC") word then Some hints.Dynamic
    else part_hint word node)

-- ---- numbers

abbrev pub begins_digit : List ℕ → Bool
begins_digit [] = false
begins_digit (b ∷ bs) = is_ascii_digit b

-- a digit and a comma stand before the place
abbrev pub follows_number : List ℕ → ℕ → Bool
follows_number text place =
    if nat_lt place 2 || nat_lt (length text) place then false
    else slice_index text (place - 1) == 44 && is_ascii_digit (slice_index text (place - 2))

-- the word at the place looks like the decimals of the number before it
abbrev pub is_comma_number : List ℕ → List ℕ → ℕ → Bool
is_comma_number word text place = begins_digit word && follows_number text place

-- for what does not fit at a place of a node
abbrev pub place_hint : List ℕ → List ℕ → ℕ → Option Hint
place_hint text node place =
    if is_comma_number (word_at text place) text place then Some hints.Comma else word_hint (word_at text place) node

-- ---- the front of a text

abbrev pub begins_letter : List ℕ → Bool
begins_letter [] = false
begins_letter (b ∷ bs) = is_ascii_alphabetic b

-- `+` and a letter, such as `+proj`
abbrev pub begins_option : List ℕ → Bool
begins_option [] = false
begins_option (b ∷ bs) = b == 43 && begins_letter bs

abbrev pub is_proj_string : List ℕ → Bool
is_proj_string bytes = begins_option bytes || begins (codes "proj=") bytes || begins (codes "init=") bytes

-- projinfo prints such a line before each text
abbrev pub begins_heading : List ℕ → Bool
begins_heading bytes = begins (codes "WKT2:") bytes || begins (codes "WKT1:") bytes || begins (codes "PROJ string:") bytes || begins (codes "PROJ.4 string:") bytes || begins (codes "PROJJSON:") bytes

-- a word, and nothing but blanks after it
abbrev pub is_last_word : List ℕ → Bool
is_last_word bytes = not (length (front_word bytes) == 0) && length (behind_blanks (behind_word bytes)) == 0

abbrev pub is_colon_word : List ℕ → Bool
is_colon_word [] = false
is_colon_word (b ∷ bs) = b == 58 && is_last_word bs

-- a word, a colon and a word, such as `EPSG:4326`
abbrev pub is_code : List ℕ → Bool
is_code bytes = not (length (front_word bytes) == 0) && is_colon_word (behind_word bytes)

-- a name of OGC
abbrev pub is_urn : List ℕ → Bool
is_urn bytes = begins (codes "urn:") bytes || begins (codes "URN:") bytes || begins (codes "http:") bytes || begins (codes "https:") bytes

abbrev pub begins_separator : List ℕ → Bool
begins_separator bytes = begins (codes ",") bytes || begins (codes ";") bytes

-- a row of a table: a text in quotation marks, or a word and a separator
abbrev pub is_row : List ℕ → Bool
is_row bytes = begins (34 ∷ []) bytes || (not (length (front_word bytes) == 0) && begins_separator (behind_word bytes))

-- for the first bytes of something else that was pasted
abbrev pub paste_hint : List ℕ → Option Hint
paste_hint bytes = if is_urn bytes then Some hints.Urn else (if is_row bytes then Some hints.Row else None)

-- for the first bytes of a text that are not blank
abbrev pub start_hint : List ℕ → Option Hint
start_hint bytes =
    if length bytes == 0 then Some hints.Empty
    else (if begins (codes "{") bytes then Some hints.ProjJson
    else (if begins (codes "<") bytes then Some hints.Gml
    else (if is_proj_string bytes then Some hints.ProjString
    else (if begins_heading bytes then Some hints.Heading
    else (if is_code bytes then Some hints.Code
    else paste_hint bytes)))))

-- a register, a summary or a piece, of version 1 or 2
abbrev pub is_own_file : List ℕ → Bool
is_own_file bytes = begins (67 ∷ 82 ∷ 83 ∷ 82 ∷ 1 ∷ []) bytes || begins (67 ∷ 82 ∷ 83 ∷ 82 ∷ 2 ∷ []) bytes

-- for the front of a text without tokens
abbrev pub front_hint : List ℕ → Option Hint
front_hint text = if begins (239 ∷ 187 ∷ 191 ∷ []) text then Some hints.ByteOrderMark
    else (if is_own_file text then Some hints.OwnFile else start_hint (behind_blanks text))

-- the front of a file of gzip, or of zip
abbrev pub is_packed : List ℕ → Bool
is_packed text = begins (31 ∷ 139 ∷ []) text || begins (80 ∷ 75 ∷ 3 ∷ 4 ∷ []) text

-- for bytes that are not UTF-8
abbrev pub encoding_hint : List ℕ → Hint
encoding_hint text = if begins (255 ∷ 254 ∷ []) text || begins (254 ∷ 255 ∷ []) text then hints.Utf16
    else (if is_own_file text then hints.OwnFile else (if is_packed text then hints.Packed else hints.Latin))

-- for the word after a complete text
abbrev pub more_hint : List ℕ → Option Hint
more_hint [] = None
more_hint (b ∷ bs) = Some hints.TwoTexts

-- for a complete text that begins with this word, before this other word
abbrev pub after_hint : List ℕ → List ℕ → Option Hint
after_hint first word = if is_wkt1 first then Some hints.Wkt1 else more_hint word

-- ---- characters

-- a typographic quotation mark
abbrev pub is_quotation : List ℕ → Bool
is_quotation bytes = begins (226 ∷ 128 ∷ 156 ∷ []) bytes || begins (226 ∷ 128 ∷ 157 ∷ []) bytes || begins (226 ∷ 128 ∷ 158 ∷ []) bytes || begins (226 ∷ 128 ∷ 152 ∷ []) bytes
    || begins (226 ∷ 128 ∷ 153 ∷ []) bytes || begins (226 ∷ 128 ∷ 154 ∷ []) bytes || begins (194 ∷ 171 ∷ []) bytes || begins (194 ∷ 187 ∷ []) bytes

-- U+00A0, U+202F, U+2009, U+200B or U+FEFF
abbrev pub is_wide_blank : List ℕ → Bool
is_wide_blank bytes = begins (194 ∷ 160 ∷ []) bytes || begins (226 ∷ 128 ∷ 175 ∷ []) bytes || begins (226 ∷ 128 ∷ 137 ∷ []) bytes || begins (226 ∷ 128 ∷ 139 ∷ []) bytes
    || begins (239 ∷ 187 ∷ 191 ∷ []) bytes

-- for a character that no token begins with
abbrev pub mark_hint : List ℕ → Option Hint
mark_hint bytes =
    if is_quotation bytes then Some hints.Quotation
    else (if is_wide_blank bytes then Some hints.WideBlank
    else (if begins (62 ∷ []) bytes then Some hints.Mail
    else None))

abbrev pub or_else : Option Hint → Option Hint → Option Hint
or_else None other = other
or_else (Some hint) other = Some hint

abbrev pub byte_hint : List ℕ → ℕ → Option Hint
byte_hint text at = or_else (front_hint text) (mark_hint (drop at text))

-- for a number in this node that is none, such as a date
abbrev pub number_hint : List ℕ → List ℕ → Option Hint
number_hint text node = if same_word (codes "TIMEEXTENT") node then Some hints.TimeExtent else front_hint text

abbrev pub text_hint : List ℕ → List ℕ → TextFault → Option Hint
text_hint text node (NotUtf8 at) = Some (encoding_hint text)
text_hint text node (After at) = after_hint (front_word (behind_blanks text)) (word_at text at)
text_hint text node (BadByte at) = byte_hint text at
text_hint text node (BadNumber at) = number_hint text node
text_hint text node _ = front_hint text

-- for a text with this fault, in the node with this keyword
abbrev pub hint_of : List ℕ → List ℕ → DefinitionFault → Option Hint
hint_of text node (fault.Read (Text f)) = text_hint text node f
hint_of text node (fault.Read (Slot (NotHere at))) = place_hint text node at
hint_of text node (fault.Read (Slot (Missing s at))) = None
hint_of text node (fault.Read (Slot (NotCount at))) = None
hint_of text node (fault.Read (Slot (WordUnknown at))) = None
hint_of text node (fault.Read (Broken c at)) = None
hint_of text node fault.NoIdentifier = Some hints.NoIdentifier
hint_of text node fault.CanonicalTooLong = None
hint_of text node fault.NotCanonical = None
hint_of text node fault.Memory = None
