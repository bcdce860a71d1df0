-- What is read of a page, part by part.
use Rattle.std.proofs.Common.{◌≡◌, ◌==◌, ℕ, Bool, true, false, if◌then◌else◌, List, [], ◌∷◌, ◌++◌, codes, length, Option, Some, None, refl, sym, ap, ◌∙◌, append-nil}
use Rattle.std.specs.List.{flat_map}
use Rattle.html_page.specs.Pieces.{Piece, Markup, html}
use Rattle.html_page.specs.Shown.{Link, Entered, Awaited, Event, SupersededBy, RetiredBy, Box, Entry, Word, Side, Pair, Conflict, Gap, Shown}
use Rattle.html_page.specs.declared.run.RunKind.{RunKind}
use Rattle.html_page.specs.declared.run.RunKind.TheVariants.{Plain, Differs, Folded}
use Rattle.html_page.specs.declared.standing.Standing.{Standing}
use Rattle.html_page.specs.declared.standing.Standing.TheVariants.{Valid, Superseded, Retired}
use Rattle.html_page.specs.declared.head.PageFigures.{PageFigures}
use Rattle.html_page.specs.declared.markup.TheConstants.{AFTER_FIGURES, PAIR, AFTER_PAIR, AFTER_SIDE, CONFLICTS_START, CONFLICTS_END, AWAITED_START, AWAITED_END, GAPS_START, GAPS_END, ENTRIES_START, MAP, SUPERSEDED_BY, AFTER_HISTORY, BY, AFTER_BY, AFTER_ENTRY, ENTRIES_END, RETIRED_START, RETIRED_END}
use Rattle.html_page.specs.Templates as made
use Rattle.html_page.specs.Read.{read_of, read_from, start}
use Rattle.html_page.specs.Escaped.{unescaped}
use Rattle.html_page.specs.Words.{joined}
use Rattle.html_page.specs.Said as says
use Rattle.html_page.specs.Said.{line, lines, said}
use Rattle.html_page.proofs.ReadLemmas.{Says, is_said, says-append, says-nothing, says-each, says-one}

figures_say : (f : PageFigures) → Says (made.figures f) (says.figures f)
figures_say f = is_said (made.figures f) (says.figures f) refl

link_says : (named : List ℕ → List ℕ) (l : Link) → Says (made.link named l) (says.link named l)
link_says named (Entered id authority code) = is_said (made.link_entered id authority code) (says.cut authority ∷ codes ":" ∷ says.cut code ∷ []) refl
link_says named (Awaited id) = is_said (made.link_awaited (named id)) (line (named id) ∷ []) refl

word_says_at : (kind : RunKind) (text : List ℕ) → Says (made.word_as kind text) (says.word_as kind text)
word_says_at Plain text = is_said (made.word_as Plain text) (says.word_as Plain text) refl
word_says_at Differs text = is_said (made.word_as Differs text) (says.word_as Differs text) refl
word_says_at Folded text = is_said (made.word_as Folded text) (says.word_as Folded text) refl

word_says : (w : Word) → Says (made.word w) (says.word w)
word_says w = word_says_at w.kind w.text

side_says : (named : List ℕ → List ℕ) (s : Side) → Says (made.side named s) (says.side named s)
side_says named s =
    says-nothing
    (says-append (is_said (made.side_start s.id (named s.id) s.note) (line (named s.id) ∷ says.blank ∷ line s.note ∷ []) refl) (says-each made.word says.word word_says s.words))
    (is_said (Markup AFTER_SIDE.now ∷ []) [] refl)

pair_says : (named : List ℕ → List ℕ) (p : Pair) → Says (made.pair named p) (says.pair named p)
pair_says named p = says-nothing (says-append (says-append (is_said (Markup PAIR.now ∷ []) [] refl) (side_says named p.first)) (side_says named p.second)) (is_said (Markup AFTER_PAIR.now ∷ []) [] refl)

conflict_says : (named : List ℕ → List ℕ) (c : Conflict) → Says (made.conflict named c) (says.conflict named c)
conflict_says named c = says-append (is_said (made.conflict_start c.authority c.code) (says.key c.authority c.code) refl) (says-each (made.pair named) (says.pair named) (pair_says named) c.pairs)

section_says_at : {T : Type 0} (b : Bool) (begin finish : List ℕ) (heading : List (List ℕ)) (item : T → List Piece) (g : T → List (List ℕ)) → Says (Markup begin ∷ []) heading → Says (Markup finish ∷ []) []
    → ((x : T) → Says (item x) (g x)) → (xs : List T) → Says (if b then [] else (Markup begin ∷ []) ++ flat_map item xs ++ Markup finish ∷ []) (if b then [] else heading ++ flat_map g xs)
section_says_at true begin finish heading item g first last each xs = is_said [] [] refl
section_says_at false begin finish heading item g first last each xs = says-nothing (says-append first (says-each item g each xs)) last

section_says : {T : Type 0} (begin finish : List ℕ) (heading : List (List ℕ)) (item : T → List Piece) (g : T → List (List ℕ)) → Says (Markup begin ∷ []) heading → Says (Markup finish ∷ []) []
    → ((x : T) → Says (item x) (g x)) → (xs : List T) → Says (made.section begin item finish xs) (says.section heading g xs)
section_says begin finish heading item g first last each xs = section_says_at (length xs == 0) begin finish heading item g first last each xs

event_says : (named : List ℕ → List ℕ) (e : Event) → Says (made.event named e) (says.event named e)
event_says named (SupersededBy newer id note) =
    says-append (says-append (is_said (Markup SUPERSEDED_BY.now ∷ []) (codes "Superseded by " ∷ []) refl) (link_says named newer)) (is_said (made.operation (named id) note) (says.operation (named id) note) refl)
event_says named (RetiredBy id note) = is_said (made.event named (RetiredBy id note)) (says.event named (RetiredBy id note)) refl

standing_says : (kind : List ℕ) (s : Standing) → Says (made.kind_and_standing kind s) (line kind ∷ says.status s ∷ [])
standing_says kind Valid = is_said (made.kind_and_standing kind Valid) (line kind ∷ says.status Valid ∷ []) refl
standing_says kind Superseded = is_said (made.kind_and_standing kind Superseded) (line kind ∷ says.status Superseded ∷ []) refl
standing_says kind Retired = is_said (made.kind_and_standing kind Retired) (line kind ∷ says.status Retired ∷ []) refl

by_says : (named : List ℕ → List ℕ) (l : Link) → Says (made.by named l) (says.by named l)
by_says named l = says-nothing (says-append (is_said (Markup BY.now ∷ []) (codes "by " ∷ []) refl) (link_says named l)) (is_said (Markup AFTER_BY.now ∷ []) [] refl)

map_says_at : (south west north east : List ℕ) (crosses : Bool) → Says ((Markup MAP.now ∷ []) ++ made.drawing south west north east crosses ++ made.caption south west north east) (says.caption south west north east)
map_says_at south west north east true = is_said ((Markup MAP.now ∷ []) ++ made.drawing south west north east true ++ made.caption south west north east) (says.caption south west north east) refl
map_says_at south west north east false = is_said ((Markup MAP.now ∷ []) ++ made.drawing south west north east false ++ made.caption south west north east) (says.caption south west north east) refl

map_says : (b : Box) → Says (made.map_of b) (says.map_of b)
map_says b = map_says_at b.south b.west b.north b.east b.crosses

start_says : (id authority code name : List ℕ) → Says (made.entry_start id authority code name) (line authority ∷ codes ":" ∷ line code ∷ line name ∷ [])
start_says id authority code name = is_said (made.entry_start id authority code name) (line authority ∷ codes ":" ∷ line code ∷ line name ∷ []) refl

text_says : (text : List ℕ) → Says (made.entry_text text) (lines text ∷ [])
text_says text = is_said (made.entry_text text) (lines text ∷ []) refl

question_says : (text : List ℕ) → Says (made.question text) (lines text ∷ [])
question_says text = is_said (made.question text) (lines text ∷ []) refl

id_says : (read note : List ℕ) → Says (made.entry_id read note) (says.entered read note)
id_says read note = is_said (made.entry_id read note) (says.entered read note) refl

area_says : (text : List ℕ) → Says (made.area text) (line text ∷ [])
area_says text = is_said (made.area text) (line text ∷ []) refl

content_says : (named : List ℕ → List ℕ) (o : Option (List ℕ)) (e : Entry) → Says (made.text_or_link named o e.boxes e.text e.questions) (says.text_or_link named o e)
content_says named None e = says-append (says-append (says-each made.map_of says.map_of map_says e.boxes) (text_says e.text)) (says-one made.question lines question_says e.questions)
content_says named (Some id) e = is_said (made.same_text id (named id)) (codes "The same text as " ∷ line (named id) ∷ []) refl

conflict_link_says : (authority code : List ℕ) (b : Bool) → Says (made.conflict_link authority code b) (says.conflict_word b)
conflict_link_says authority code true = is_said (made.conflict_link authority code true) (codes "in conflict" ∷ []) refl
conflict_link_says authority code false = is_said [] [] refl

entry_says : (named : List ℕ → List ℕ) (e : Entry) → Says (made.entry named e) (says.entry named e)
entry_says named e =
    says-nothing (says-append (says-append (says-append (says-append (says-nothing (says-append (says-append (says-append
    (start_says e.id e.authority e.code e.name) (content_says named e.same_text_as e)) (id_says (named e.id) e.note))
    (says-each (made.event named) (says.event named) (event_says named) e.events)) (is_said (Markup AFTER_HISTORY.now ∷ []) [] refl))
    (says-one made.area line area_says e.areas)) (standing_says e.kind e.standing))
    (says-each (made.by named) (says.by named) (by_says named) e.links)) (conflict_link_says e.authority e.code e.in_conflict)) (is_said (Markup AFTER_ENTRY.now ∷ []) [] refl)

head_says : (title : List ℕ) → Says (made.head title) (says.head title)
head_says title = is_said (made.head title) (says.head title) refl

conflicts_say : (named : List ℕ → List ℕ) (cs : List Conflict) → Says (made.section CONFLICTS_START.now (made.conflict named) CONFLICTS_END.now cs) (says.section says.conflicts_heading (says.conflict named) cs)
conflicts_say named cs =
    section_says CONFLICTS_START.now CONFLICTS_END.now says.conflicts_heading (made.conflict named) (says.conflict named)
    (is_said (Markup CONFLICTS_START.now ∷ []) says.conflicts_heading refl) (is_said (Markup CONFLICTS_END.now ∷ []) [] refl) (conflict_says named) cs

awaited_says : (read : List ℕ) → Says (made.awaited_item read) (line read ∷ [])
awaited_says read = is_said (made.awaited_item read) (line read ∷ []) refl

all_awaited_say : (named : List ℕ → List ℕ) (ids : List (List ℕ)) → Says (made.section AWAITED_START.now (made.awaited named) AWAITED_END.now ids) (says.section says.awaited_heading (says.awaited named) ids)
all_awaited_say named ids =
    section_says AWAITED_START.now AWAITED_END.now says.awaited_heading (made.awaited named) (says.awaited named)
    (is_said (Markup AWAITED_START.now ∷ []) says.awaited_heading refl) (is_said (Markup AWAITED_END.now ∷ []) [] refl) (λ id. awaited_says (named id)) ids

gap_says : (named : List ℕ → List ℕ) (g : Gap) → Says (made.gap named g) (says.gap named g)
gap_says named g = is_said (made.gap named g) (says.gap named g) refl

gaps_say : (named : List ℕ → List ℕ) (gs : List Gap) → Says (made.section GAPS_START.now (made.gap named) GAPS_END.now gs) (says.section says.gaps_heading (says.gap named) gs)
gaps_say named gs =
    section_says GAPS_START.now GAPS_END.now says.gaps_heading (made.gap named) (says.gap named)
    (is_said (Markup GAPS_START.now ∷ []) says.gaps_heading refl) (is_said (Markup GAPS_END.now ∷ []) [] refl) (gap_says named) gs

entries_start : Says (Markup ENTRIES_START.now ∷ []) (codes "Entries" ∷ says.columns)
entries_start = is_said (Markup ENTRIES_START.now ∷ []) (codes "Entries" ∷ says.columns) refl

retired_say : (named : List ℕ → List ℕ) (es : List Entry) → Says (made.section RETIRED_START.now (made.entry named) RETIRED_END.now es) (says.section says.retired_heading (says.entry named) es)
retired_say named es =
    section_says RETIRED_START.now RETIRED_END.now says.retired_heading (made.entry named) (says.entry named)
    (is_said (Markup RETIRED_START.now ∷ []) says.retired_heading refl) (is_said (Markup RETIRED_END.now ∷ []) [] refl) (entry_says named) es

end_says : Says made.end []
end_says = is_said made.end [] refl

page_says : (named : List ℕ → List ℕ) (s : Shown) → Says (made.page named s) (said named s)
page_says named s =
    says-nothing (says-append (says-nothing (says-append (says-append (says-append (says-append (says-append (says-nothing (says-append
    (head_says s.title) (figures_say s.figures)) (is_said (Markup AFTER_FIGURES.now ∷ []) [] refl))
    (conflicts_say named s.conflicts)) (all_awaited_say named s.awaited)) (gaps_say named s.gaps))
    entries_start) (says-each (made.entry named) (says.entry named) (entry_says named) s.entries)) (is_said (Markup ENTRIES_END.now ∷ []) [] refl))
    (retired_say named s.retired)) end_says

pub all_said : (named : List ℕ → List ℕ) (s : Shown) → read_of (html (made.page named s)) ≡ joined (said named s)
all_said named s = let whole = (page_says named s).is.read [] in ap unescaped (sym (append-nil (read_from start (html (made.page named s))))) ∙ whole ∙ append-nil (joined (said named s))
