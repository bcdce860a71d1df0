-- What a page says: its words in their order. Line feeds in texts are left out.
use Rattle.std.specs.Prelude.{ℕ, ◌==◌, List, [], ◌∷◌, ◌++◌, codes, length, map, decimal, Bool, true, false, Option, Some, None, if◌then◌else◌}
use Rattle.std.specs.List.{flat_map}
use Rattle.text_hidden.specs.Short.{shortened, ellipsis_of}
use Rattle.html_page.specs.declared.marks.Feeds.TheVariants.{Marked, Kept}
use Rattle.html_page.specs.declared.standing.Standing.{Standing}
use Rattle.html_page.specs.declared.standing.Standing.TheVariants.{Valid, Superseded, Retired}
use Rattle.html_page.specs.declared.run.RunKind.{RunKind}
use Rattle.html_page.specs.declared.run.RunKind.TheVariants.{Plain, Differs, Folded}
use Rattle.html_page.specs.declared.head.PageFigures.{PageFigures}
use Rattle.html_page.specs.Marks.{marked}
use Rattle.html_page.specs.Read.{without_feeds}
use Rattle.html_page.specs.Shown.{Link, Entered, Awaited, Event, SupersededBy, RetiredBy, Box, Entry, Word, Side, Pair, Conflict, Gap, Shown}

-- a text with marks for hidden characters: on one line, with its lines, or its first 200 characters
abbrev pub line : List ℕ → List ℕ
line text = without_feeds (marked Marked text)

abbrev pub lines : List ℕ → List ℕ
lines text = without_feeds (marked Kept text)

abbrev pub cut : List ℕ → List ℕ
cut text = line (shortened text) ++ ellipsis_of text

-- ---- the head

abbrev pub head : List ℕ → List (List ℕ)
head title = line title ∷ line title ∷ codes "A register of coordinate reference systems." ∷ []

abbrev pub figures : PageFigures → List (List ℕ)
figures f =
    line (decimal f.entries) ∷ codes " entries" ∷ codes "definitions that offices entered under a code"
    ∷ line (decimal f.valid) ∷ codes " valid" ∷ codes "in use"
    ∷ line (decimal f.superseded) ∷ codes " superseded" ∷ codes "another entry takes its place"
    ∷ line (decimal f.retired) ∷ codes " retired" ∷ codes "withdrawn"
    ∷ line (decimal f.conflicts) ∷ codes " in conflict" ∷ codes "codes with several definitions"
    ∷ line (decimal f.awaited) ∷ codes " awaited" ∷ codes "entries that an operation names, and that have not arrived"
    ∷ line (decimal f.gaps) ∷ codes " gaps" ∷ codes "runs of an office's operations that have not arrived"
    ∷ line (decimal f.operations) ∷ codes " operations" ∷ codes "what offices did: an operation enters, supersedes or retires an entry" ∷ []

-- a list after its heading, unless it is empty
abbrev pub section : {T : Type 0} → List (List ℕ) → (T → List (List ℕ)) → List T → List (List ℕ)
section heading item xs = if length xs == 0 then [] else heading ++ flat_map item xs

-- ---- conflicts, and what is missing

abbrev pub conflicts_heading : List (List ℕ)
conflicts_heading = codes "Conflicts" ∷ codes "Each of these codes has several definitions that are not retired. What differs is marked; lines that are the same are folded, except for three around it." ∷ []

-- between an id and its note
abbrev pub blank : List ℕ
blank = codes " "

-- what is folded has a heading
abbrev pub word_as : RunKind → List ℕ → List (List ℕ)
word_as Plain text = lines text ∷ []
word_as Differs text = lines text ∷ []
word_as Folded text = codes "Lines that are the same" ∷ lines text ∷ []

abbrev pub word : Word → List (List ℕ)
word w = word_as w.kind w.text

abbrev pub side : (List ℕ → List ℕ) → Side → List (List ℕ)
side named s = (line (named s.id) ∷ blank ∷ line s.note ∷ []) ++ flat_map word s.words

abbrev pub pair : (List ℕ → List ℕ) → Pair → List (List ℕ)
pair named p = side named p.first ++ side named p.second

abbrev pub key : List ℕ → List ℕ → List (List ℕ)
key authority code = line authority ∷ codes ":" ∷ line code ∷ []

abbrev pub conflict : (List ℕ → List ℕ) → Conflict → List (List ℕ)
conflict named c = key c.authority c.code ++ flat_map (pair named) c.pairs

abbrev pub awaited_heading : List (List ℕ)
awaited_heading =
    codes "Awaited"
    ∷ codes "An operation here supersedes or retires these entries, or names them as successors. Their definitions have not arrived: another office has them." ∷ []

abbrev pub awaited : (List ℕ → List ℕ) → List ℕ → List (List ℕ)
awaited named id = line (named id) ∷ []

abbrev pub gaps_heading : List (List ℕ)
gaps_heading =
    codes "Gaps" ∷ codes "An office numbers what it does. Operations with these numbers have not arrived, but later ones of the same office have."
    ∷ codes "Office" ∷ codes "From" ∷ codes "To" ∷ []

abbrev pub gap : (List ℕ → List ℕ) → Gap → List (List ℕ)
gap named g = line (named g.replica) ∷ line (decimal g.low) ∷ line (decimal g.high) ∷ []

-- ---- entries

abbrev pub columns : List (List ℕ)
columns = codes "Code" ∷ codes "Name and area of use" ∷ codes "Kind" ∷ codes "Status" ∷ []

-- the key of the entry, or the id of one that has not arrived
abbrev pub link : (List ℕ → List ℕ) → Link → List (List ℕ)
link named (Entered id authority code) = cut authority ∷ codes ":" ∷ cut code ∷ []
link named (Awaited id) = line (named id) ∷ []

abbrev pub caption : List ℕ → List ℕ → List ℕ → List ℕ → List (List ℕ)
caption south west north east =
    codes "Latitude " ∷ line south ∷ codes " to " ∷ line north ∷ codes ", longitude " ∷ line west ∷ codes " to " ∷ line east ∷ []

abbrev pub map_of : Box → List (List ℕ)
map_of b = caption b.south b.west b.north b.east

-- the operation, and its note
abbrev pub operation : List ℕ → List ℕ → List (List ℕ)
operation read note = codes " in " ∷ line read ∷ blank ∷ line note ∷ []

-- the id of an entry, and its note
abbrev pub entered : List ℕ → List ℕ → List (List ℕ)
entered read note = codes "Entered as " ∷ line read ∷ blank ∷ line note ∷ []

abbrev pub event : (List ℕ → List ℕ) → Event → List (List ℕ)
event named (SupersededBy newer id note) = (codes "Superseded by " ∷ []) ++ link named newer ++ operation (named id) note
event named (RetiredBy id note) = (codes "Retired" ∷ []) ++ operation (named id) note

abbrev pub status : Standing → List ℕ
status Valid = codes "valid"
status Superseded = codes "superseded"
status Retired = codes "retired"

abbrev pub by : (List ℕ → List ℕ) → Link → List (List ℕ)
by named newer = (codes "by " ∷ []) ++ link named newer

-- the text with its boxes and questions, or the id of the entry whose row has them
abbrev pub text_or_link : (List ℕ → List ℕ) → Option (List ℕ) → Entry → List (List ℕ)
text_or_link named None e = flat_map map_of e.boxes ++ (lines e.text ∷ []) ++ map lines e.questions
text_or_link named (Some id) e = codes "The same text as " ∷ line (named id) ∷ []

abbrev pub conflict_word : Bool → List (List ℕ)
conflict_word true = codes "in conflict" ∷ []
conflict_word false = []

abbrev pub entry : (List ℕ → List ℕ) → Entry → List (List ℕ)
entry named e =
    key e.authority e.code ++ (line e.name ∷ []) ++ text_or_link named e.same_text_as e
    ++ entered (named e.id) e.note ++ flat_map (event named) e.events
    ++ map line e.areas ++ (line e.kind ∷ status e.standing ∷ []) ++ flat_map (by named) e.links ++ conflict_word e.in_conflict

abbrev pub retired_heading : List (List ℕ)
retired_heading = codes "Retired entries" ∷ codes "Offices withdrew these entries. Do not use them for new data." ∷ codes "Show the retired entries" ∷ columns

-- ---- the page

abbrev pub said : (List ℕ → List ℕ) → Shown → List (List ℕ)
said named s =
    head s.title ++ figures s.figures
    ++ section conflicts_heading (conflict named) s.conflicts
    ++ section awaited_heading (awaited named) s.awaited
    ++ section gaps_heading (gap named) s.gaps
    ++ (codes "Entries" ∷ columns) ++ flat_map (entry named) s.entries
    ++ section retired_heading (entry named) s.retired
