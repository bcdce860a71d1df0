-- What is read of a page: the bytes between tags without line feeds, with references as their bytes, of all elements that are shown.
use Rattle.std.specs.Prelude.{ℕ, ◌==◌, Bool, false, not, ◌&&◌, ◌||◌, List, [], ◌∷◌, ◌++◌, codes, filter, is_some, if◌then◌else◌}
use Rattle.std.specs.List.{list_any}
use Rattle.html_page.specs.Escaped.{unescaped}
use Rattle.html_page.specs.Places.{Context, Content, Name, Tag, Equals, Quoted, Raw, Expects, Lost, is, is_blank, step, with_text}

-- the elements with these names are shown, unless an attribute hides them; a style and a script have no bytes between tags
abbrev pub shown_names : List (List ℕ)
shown_names =
    codes "html" ∷ codes "head" ∷ codes "meta" ∷ codes "title" ∷ codes "style" ∷ codes "script" ∷ codes "body" ∷ codes "header" ∷ codes "main"
    ∷ codes "section" ∷ codes "div" ∷ codes "p" ∷ codes "pre" ∷ codes "h1" ∷ codes "h2" ∷ codes "h3" ∷ codes "ul" ∷ codes "li" ∷ codes "table"
    ∷ codes "thead" ∷ codes "tbody" ∷ codes "tr" ∷ codes "th" ∷ codes "td" ∷ codes "details" ∷ codes "summary" ∷ codes "figure" ∷ codes "figcaption"
    ∷ codes "svg" ∷ codes "path" ∷ codes "use" ∷ codes "a" ∷ codes "b" ∷ codes "bdi" ∷ codes "code" ∷ codes "mark" ∷ codes "small" ∷ codes "span"
    ∷ codes "label" ∷ codes "input" ∷ codes "output" ∷ []

-- the name of a tag that begins an element which is not shown
abbrev pub begins_hidden : List ℕ → Bool
begins_hidden [] = false
begins_hidden (b ∷ name) = if b == 47 then false else not (list_any (λ n. is n (b ∷ name)) shown_names)

-- an attribute that hides its element, from all readers or from those that hear the page
abbrev pub hides : List ℕ → Bool
hides attribute = is attribute (codes "hidden") || is attribute (codes "aria-hidden")

-- where a reader is: in a tag with this name, if it is in one; nothing is read before the end tag `until`, if there is one
pub record Reader : Type 0 where
  pub context : Context
  pub name : List ℕ
  pub until : List ℕ

abbrev pub start : Reader
start = record { context = Content; name = []; until = [] }

abbrev pub ends_word : ℕ → Bool
ends_word b = (b == 62) || is_blank b

-- the end tag that is waited for after a tag's name, and after an attribute of a tag. Within a hidden element it stays, unless an element
-- of the same name begins there: then none ends it
abbrev pub until_name : List ℕ → List ℕ → List ℕ
until_name [] name = if begins_hidden name then 47 ∷ name else []
until_name (b ∷ until) name = if is (b ∷ until) name then [] else (if is (b ∷ until) (47 ∷ name) then 0 ∷ b ∷ until else b ∷ until)

abbrev pub until_attribute : List ℕ → List ℕ → List ℕ → List ℕ
until_attribute [] name attribute = if hides attribute then 47 ∷ name else []
until_attribute (b ∷ until) name attribute = b ∷ until

-- the reader after a byte
abbrev pub turn : Context → List ℕ → List ℕ → ℕ → Reader
turn Content name until b = record { context = step Content b; name = name; until = until }
turn (Name n) name until b = record { context = step (Name n) b; name = if b == 62 then [] else n; until = if ends_word b then until_name until n else until }
turn (Tag a) name until b = record { context = step (Tag a) b; name = if b == 62 then [] else name; until = if ends_word b || (b == 61) then until_attribute until name a else until }
turn (Equals a) name until b = record { context = step (Equals a) b; name = name; until = until }
turn (Quoted a) name until b = record { context = step (Quoted a) b; name = name; until = until }
turn (Raw end) name until b = record { context = step (Raw end) b; name = name; until = until }
turn (Expects end) name until b = record { context = step (Expects end) b; name = name; until = until }
turn Lost name until b = record { context = Lost; name = name; until = until }

abbrev pub reader_after : Reader → List ℕ → Reader
reader_after r [] = r
reader_after r (b ∷ bs) = reader_after (turn r.context r.name r.until b) bs

-- the byte is read
abbrev pub is_read : Reader → ℕ → Bool
is_read r b = (is_some (with_text r.context) && is r.until []) && not ((b == 60) || (b == 10))

abbrev pub read_from : Reader → List ℕ → List ℕ
read_from r [] = []
read_from r (b ∷ bs) = (if is_read r b then b ∷ [] else []) ++ read_from (turn r.context r.name r.until b) bs

abbrev pub read_of : List ℕ → List ℕ
read_of page = unescaped (read_from start page)

abbrev pub without_feeds : List ℕ → List ℕ
without_feeds text = filter (λ b. not (b == 10)) text
