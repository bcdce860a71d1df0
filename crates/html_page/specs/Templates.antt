-- The page: its contents as a list of pieces. `named` gives what is read in the place of an id or a UUID; links keep it.
use Rattle.std.specs.Prelude.{ℕ, Bool, true, false, ◌==◌, List, [], ◌∷◌, ◌++◌, length, decimal, Option, Some, None, if◌then◌else◌}
use Rattle.std.specs.List.{flat_map}
use Rattle.html_page.specs.Pieces.{Piece, Markup, Text, Lines, Short, Attribute, Numeral}
use Rattle.html_page.specs.declared.markup.TheConstants.{BEFORE_TITLE, BEFORE_STYLE, BEFORE_HEADING, BEFORE_FIGURES, COUNT, ENTRIES, OPERATIONS, VALID, SUPERSEDED, RETIRED, IN_CONFLICT, AWAITED, GAPS, AFTER_FIGURES, CONFLICTS_START, CONFLICT, BEFORE_CONFLICT_KEY, COLON, AFTER_CONFLICT_KEY, PAIR, SIDE, BEFORE_SIDE_ID, BEFORE_SIDE_NOTE, BEFORE_SIDE_WORDS, AFTER_SIDE, AFTER_PAIR, CONFLICTS_END, WORD, AFTER_WORD, FOLD, AFTER_FOLD, AWAITED_START, AWAITED_ITEM, AFTER_AWAITED_ITEM, AWAITED_END, GAPS_START, GAP, BEFORE_LOW, AFTER_LOW, BEFORE_HIGH, AFTER_GAP, GAPS_END, ENTRIES_START, MAP, BOX, COMMA, ACROSS, UP, AFTER_BOX, TO_EAST_END, FROM_WEST_END, AFTER_WEST_END, BEFORE_SOUTH, BEFORE_NORTH, BEFORE_WEST, BEFORE_EAST, AFTER_MAP, ENTRY, BEFORE_ENTRY_LINK, BEFORE_ENTRY_KEY, BEFORE_NAME, AFTER_NAME, BEFORE_TEXT, AFTER_TEXT, SAME_TEXT, BEFORE_SAME_ID, AFTER_SAME_TEXT, QUESTION, AFTER_QUESTION, BEFORE_ENTRY_ID, BEFORE_ENTRY_NOTE, AFTER_ENTRY_NOTE, SUPERSEDED_BY, RETIRED_BY, BEFORE_OPERATION, BEFORE_NOTE, AFTER_NOTE, AFTER_HISTORY, AREA, AFTER_AREA, BEFORE_KIND, BEFORE_STANDING, VALID_CELL, SUPERSEDED_CELL, RETIRED_CELL, BY, AFTER_BY, BEFORE_CONFLICT_LINK, AFTER_CONFLICT_LINK, AFTER_ENTRY, LINK, BEFORE_LINK_KEY, AFTER_LINK, MISSING, AFTER_MISSING, ENTRIES_END, RETIRED_START, RETIRED_END, MAIN_END, PAGE_END}
use Rattle.html_page.specs.declared.style.TheConstants.{STYLE}
use Rattle.html_page.specs.declared.script.TheConstants.{SCRIPT}
use Rattle.html_page.specs.declared.standing.Standing.{Standing}
use Rattle.html_page.specs.declared.standing.Standing.TheVariants as standing
use Rattle.html_page.specs.declared.run.RunKind.{RunKind}
use Rattle.html_page.specs.declared.run.RunKind.TheVariants as run
use Rattle.html_page.specs.declared.head.PageFigures.{PageFigures}
use Rattle.html_page.specs.Shown.{Link, Entered, Awaited, Event, SupersededBy, RetiredBy, Box, Entry, Word, Side, Pair, Conflict, Gap, Shown}

-- ---- the head, and the counts

abbrev pub head : List ℕ → List Piece
head title =
    Markup BEFORE_TITLE.now ∷ Text title ∷ Markup BEFORE_STYLE.now ∷ Markup STYLE.now ∷ Markup BEFORE_HEADING.now
    ∷ Text title ∷ Markup BEFORE_FIGURES.now ∷ []

abbrev pub number : List ℕ → ℕ → List ℕ → List Piece
number before n after = Markup before ∷ Text (decimal n) ∷ Markup after ∷ []

abbrev pub count : ℕ → List ℕ → List Piece
count n label = number COUNT.now n label

abbrev pub figures : PageFigures → List Piece
figures f =
    count f.entries ENTRIES.now ++ count f.valid VALID.now ++ count f.superseded SUPERSEDED.now
    ++ count f.retired RETIRED.now ++ count f.conflicts IN_CONFLICT.now ++ count f.awaited AWAITED.now
    ++ count f.gaps GAPS.now ++ count f.operations OPERATIONS.now

-- ---- links to entries

abbrev pub link_entered : List ℕ → List ℕ → List ℕ → List Piece
link_entered id authority code =
    Markup LINK.now ∷ Attribute id ∷ Markup BEFORE_LINK_KEY.now ∷ Short authority ∷ Markup COLON.now ∷ Short code
    ∷ Markup AFTER_LINK.now ∷ []

abbrev pub link_awaited : List ℕ → List Piece
link_awaited read = Markup MISSING.now ∷ Text read ∷ Markup AFTER_MISSING.now ∷ []

abbrev pub link : (List ℕ → List ℕ) → Link → List Piece
link named (Entered id authority code) = link_entered id authority code
link named (Awaited id) = link_awaited (named id)

-- ---- conflicts

abbrev pub word_as : RunKind → List ℕ → List Piece
word_as run.Plain text = Lines text ∷ []
word_as run.Differs text = Markup WORD.now ∷ Lines text ∷ Markup AFTER_WORD.now ∷ []
word_as run.Folded text = Markup FOLD.now ∷ Lines text ∷ Markup AFTER_FOLD.now ∷ []

abbrev pub word : Word → List Piece
word w = word_as w.kind w.text

abbrev pub side_start : List ℕ → List ℕ → List ℕ → List Piece
side_start id read note =
    Markup SIDE.now ∷ Attribute id ∷ Markup BEFORE_SIDE_ID.now ∷ Text read ∷ Markup BEFORE_SIDE_NOTE.now ∷ Text note
    ∷ Markup BEFORE_SIDE_WORDS.now ∷ []

abbrev pub side : (List ℕ → List ℕ) → Side → List Piece
side named s = side_start s.id (named s.id) s.note ++ flat_map word s.words ++ Markup AFTER_SIDE.now ∷ []

abbrev pub pair : (List ℕ → List ℕ) → Pair → List Piece
pair named p = (Markup PAIR.now ∷ []) ++ side named p.first ++ side named p.second ++ Markup AFTER_PAIR.now ∷ []

abbrev pub conflict_start : List ℕ → List ℕ → List Piece
conflict_start authority code =
    Markup CONFLICT.now ∷ Attribute authority ∷ Markup COLON.now ∷ Attribute code ∷ Markup BEFORE_CONFLICT_KEY.now ∷ Text authority ∷ Markup COLON.now ∷ Text code ∷ Markup AFTER_CONFLICT_KEY.now ∷ []

abbrev pub conflict : (List ℕ → List ℕ) → Conflict → List Piece
conflict named c = conflict_start c.authority c.code ++ flat_map (pair named) c.pairs

-- a list between its start and its end, unless it is empty
abbrev pub section : {T : Type 0} → List ℕ → (T → List Piece) → List ℕ → List T → List Piece
section start item end xs = if length xs == 0 then [] else (Markup start ∷ []) ++ flat_map item xs ++ Markup end ∷ []

-- ---- missing entries and operations

abbrev pub awaited_item : List ℕ → List Piece
awaited_item read = Markup AWAITED_ITEM.now ∷ Text read ∷ Markup AFTER_AWAITED_ITEM.now ∷ []

abbrev pub awaited : (List ℕ → List ℕ) → List ℕ → List Piece
awaited named id = awaited_item (named id)

abbrev pub gap_start : List ℕ → List Piece
gap_start read = Markup GAP.now ∷ Text read ∷ []

abbrev pub gap_counts : ℕ → ℕ → List Piece
gap_counts low high = number BEFORE_LOW.now low AFTER_LOW.now ++ number BEFORE_HIGH.now high AFTER_GAP.now

abbrev pub gap : (List ℕ → List ℕ) → Gap → List Piece
gap named g = gap_start (named g.replica) ++ gap_counts g.low g.high

-- ---- maps

-- the ring of a box, from its south-west corner
abbrev pub one_part : List ℕ → List ℕ → List ℕ → List ℕ → List Piece
one_part south west north east =
    Markup BOX.now ∷ Numeral west ∷ Markup COMMA.now ∷ Numeral south ∷ Markup ACROSS.now ∷ Numeral east ∷ Markup UP.now ∷ Numeral north
    ∷ Markup ACROSS.now ∷ Numeral west ∷ Markup AFTER_BOX.now ∷ []

-- the ring up to the meridian of 180 degrees, and the one from it on
abbrev pub two_parts : List ℕ → List ℕ → List ℕ → List ℕ → List Piece
two_parts south west north east =
    Markup BOX.now ∷ Numeral west ∷ Markup COMMA.now ∷ Numeral south ∷ Markup TO_EAST_END.now ∷ Numeral north ∷ Markup ACROSS.now ∷ Numeral west
    ∷ Markup FROM_WEST_END.now ∷ Numeral south ∷ Markup ACROSS.now ∷ Numeral east ∷ Markup UP.now ∷ Numeral north ∷ Markup AFTER_WEST_END.now ∷ []

abbrev pub drawing : List ℕ → List ℕ → List ℕ → List ℕ → Bool → List Piece
drawing south west north east crosses = if crosses then two_parts south west north east else one_part south west north east

abbrev pub caption : List ℕ → List ℕ → List ℕ → List ℕ → List Piece
caption south west north east =
    Markup BEFORE_SOUTH.now ∷ Text south ∷ Markup BEFORE_NORTH.now ∷ Text north ∷ Markup BEFORE_WEST.now ∷ Text west ∷ Markup BEFORE_EAST.now
    ∷ Text east ∷ Markup AFTER_MAP.now ∷ []

-- the box over the grid, and its numerals
abbrev pub map_of : Box → List Piece
map_of b = (Markup MAP.now ∷ []) ++ drawing b.south b.west b.north b.east b.crosses ++ caption b.south b.west b.north b.east

-- ---- entries

abbrev pub entry_start : List ℕ → List ℕ → List ℕ → List ℕ → List Piece
entry_start id authority code name =
    Markup ENTRY.now ∷ Attribute id ∷ Markup BEFORE_ENTRY_LINK.now ∷ Attribute id ∷ Markup BEFORE_ENTRY_KEY.now
    ∷ Text authority ∷ Markup COLON.now ∷ Text code ∷ Markup BEFORE_NAME.now ∷ Text name ∷ Markup AFTER_NAME.now ∷ []

abbrev pub entry_text : List ℕ → List Piece
entry_text text = Markup BEFORE_TEXT.now ∷ Lines text ∷ Markup AFTER_TEXT.now ∷ []

-- the id of the entry whose row has the text, as a link to it
abbrev pub same_text : List ℕ → List ℕ → List Piece
same_text id read = Markup SAME_TEXT.now ∷ Attribute id ∷ Markup BEFORE_SAME_ID.now ∷ Text read ∷ Markup AFTER_SAME_TEXT.now ∷ []

-- what an expert would ask about it
abbrev pub question : List ℕ → List Piece
question text = Markup QUESTION.now ∷ Lines text ∷ Markup AFTER_QUESTION.now ∷ []

-- the boxes, the text and the questions of an entry, or a link to the row that has them
abbrev pub text_or_link : (List ℕ → List ℕ) → Option (List ℕ) → List Box → List ℕ → List (List ℕ) → List Piece
text_or_link named None boxes text questions = flat_map map_of boxes ++ entry_text text ++ flat_map question questions
text_or_link named (Some id) boxes text questions = same_text id (named id)

abbrev pub entry_id : List ℕ → List ℕ → List Piece
entry_id read note = Markup BEFORE_ENTRY_ID.now ∷ Text read ∷ Markup BEFORE_ENTRY_NOTE.now ∷ Text note ∷ Markup AFTER_ENTRY_NOTE.now ∷ []

-- the id and the note of an operation
abbrev pub operation_id : List ℕ → List Piece
operation_id read = Markup BEFORE_OPERATION.now ∷ Text read ∷ []

abbrev pub operation_note : List ℕ → List Piece
operation_note note = Markup BEFORE_NOTE.now ∷ Text note ∷ Markup AFTER_NOTE.now ∷ []

abbrev pub operation : List ℕ → List ℕ → List Piece
operation read note = operation_id read ++ operation_note note

abbrev pub event : (List ℕ → List ℕ) → Event → List Piece
event named (SupersededBy newer id note) = (Markup SUPERSEDED_BY.now ∷ []) ++ link named newer ++ operation (named id) note
event named (RetiredBy id note) = (Markup RETIRED_BY.now ∷ []) ++ operation (named id) note

abbrev pub area : List ℕ → List Piece
area text = Markup AREA.now ∷ Text text ∷ Markup AFTER_AREA.now ∷ []

abbrev pub standing_cell : Standing → List ℕ
standing_cell standing.Valid = VALID_CELL.now
standing_cell standing.Superseded = SUPERSEDED_CELL.now
standing_cell standing.Retired = RETIRED_CELL.now

abbrev pub kind_and_standing : List ℕ → Standing → List Piece
kind_and_standing kind s = Markup BEFORE_KIND.now ∷ Text kind ∷ Markup BEFORE_STANDING.now ∷ Markup (standing_cell s) ∷ []

abbrev pub by : (List ℕ → List ℕ) → Link → List Piece
by named newer = (Markup BY.now ∷ []) ++ link named newer ++ Markup AFTER_BY.now ∷ []

-- a link to the definitions of the key, side by side, if they are in conflict
abbrev pub conflict_link : List ℕ → List ℕ → Bool → List Piece
conflict_link authority code true = Markup BEFORE_CONFLICT_LINK.now ∷ Attribute authority ∷ Markup COLON.now ∷ Attribute code ∷ Markup AFTER_CONFLICT_LINK.now ∷ []
conflict_link authority code false = []

abbrev pub entry : (List ℕ → List ℕ) → Entry → List Piece
entry named e =
    entry_start e.id e.authority e.code e.name ++ text_or_link named e.same_text_as e.boxes e.text e.questions ++ entry_id (named e.id) e.note
    ++ flat_map (event named) e.events ++ (Markup AFTER_HISTORY.now ∷ []) ++ flat_map area e.areas ++ kind_and_standing e.kind e.standing ++ flat_map (by named) e.links
    ++ conflict_link e.authority e.code e.in_conflict ++ Markup AFTER_ENTRY.now ∷ []

-- ---- the page

abbrev pub end : List Piece
end = Markup MAIN_END.now ∷ Markup SCRIPT.now ∷ Markup PAGE_END.now ∷ []

abbrev pub page : (List ℕ → List ℕ) → Shown → List Piece
page named s =
    head s.title ++ figures s.figures ++ (Markup AFTER_FIGURES.now ∷ [])
    ++ section CONFLICTS_START.now (conflict named) CONFLICTS_END.now s.conflicts
    ++ section AWAITED_START.now (awaited named) AWAITED_END.now s.awaited
    ++ section GAPS_START.now (gap named) GAPS_END.now s.gaps
    ++ (Markup ENTRIES_START.now ∷ []) ++ flat_map (entry named) s.entries ++ (Markup ENTRIES_END.now ∷ [])
    ++ section RETIRED_START.now (entry named) RETIRED_END.now s.retired
    ++ end
