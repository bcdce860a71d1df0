-- The positions of the texts of a page, and the page without its texts.
use Rattle.std.proofs.Common.{◌≡◌, ◌==◌, ℕ, Bool, true, false, if◌then◌else◌, List, [], ◌∷◌, ◌++◌, length, map, Option, Some, None, refl, sym, ap, ◌∙◌}
use Rattle.std.specs.List.{flat_map}
use Rattle.std.proofs.lemmas.List.{length-map}
use Rattle.html_page.specs.Pieces.{Piece, Markup, html}
use Rattle.html_page.specs.Places.{Content, tags, past_all}
use Rattle.html_page.proofs.PlaceLemmas.{same_tags}
use Rattle.html_page.proofs.JoinLemmas.{Closed, is_closed, closed-append, closed-flat_map, Alike, is_alike, alike-append, alike-flat_map}
use Rattle.html_page.specs.declared.run.RunKind.{RunKind}
use Rattle.html_page.specs.declared.run.RunKind.TheVariants.{Plain, Differs, Folded}
use Rattle.html_page.specs.declared.standing.Standing.{Standing}
use Rattle.html_page.specs.declared.standing.Standing.TheVariants.{Valid, Superseded, Retired}
use Rattle.html_page.specs.Shown.{Link, Entered, Awaited, Event, SupersededBy, RetiredBy, Box, Entry, Word, Side, Pair, Conflict, Shown}
use Rattle.html_page.specs.Shape.{no_text, figures_shape, link_shape, event_shape, box_shape, entry_shape, word_shape, side_shape, pair_shape, conflict_shape, gap_shape, link_to_text, shape}
use Rattle.html_page.specs.declared.markup.TheConstants.{AFTER_FIGURES, PAIR, AFTER_PAIR, AFTER_SIDE, CONFLICTS_START, CONFLICTS_END, AWAITED_START, AWAITED_END, GAPS_START, GAPS_END, ENTRIES_START, MAP, SUPERSEDED_BY, AFTER_HISTORY, BY, AFTER_BY, AFTER_ENTRY, ENTRIES_END, RETIRED_START, RETIRED_END}
use Rattle.html_page.specs.Templates.{head, figures, end, link, word, side_start, side, pair, conflict_start, conflict, section, awaited, gap, drawing, caption, map_of, entry_start, entry_text, same_text, text_or_link, question, entry_id, operation, event, area, kind_and_standing, by, conflict_link, entry, page}

-- ---- places

link_closed : (named : List ℕ → List ℕ) (l : Link) → Closed (link named l)
link_closed named (Entered id authority code) = record { is = refl }
link_closed named (Awaited id) = record { is = refl }

word_closed_at : (kind : RunKind) (text : List ℕ) → Closed (word (record { kind = kind; text = text }))
word_closed_at Plain text = record { is = refl }
word_closed_at Differs text = record { is = refl }
word_closed_at Folded text = record { is = refl }

word_closed : (w : Word) → Closed (word w)
word_closed w = word_closed_at w.kind w.text

side_closed : (named : List ℕ → List ℕ) (s : Side) → Closed (side named s)
side_closed named s =
    closed-append (closed-append (is_closed (side_start s.id (named s.id) s.note) refl) (closed-flat_map word word_closed s.words)) (is_closed (Markup AFTER_SIDE.now ∷ []) refl)

pair_closed : (named : List ℕ → List ℕ) (p : Pair) → Closed (pair named p)
pair_closed named p =
    closed-append (closed-append (closed-append (is_closed (Markup PAIR.now ∷ []) refl) (side_closed named p.first)) (side_closed named p.second)) (is_closed (Markup AFTER_PAIR.now ∷ []) refl)

conflict_closed : (named : List ℕ → List ℕ) (c : Conflict) → Closed (conflict named c)
conflict_closed named c = closed-append (is_closed (conflict_start c.authority c.code) refl) (closed-flat_map (pair named) (pair_closed named) c.pairs)

section_closed_at : {T : Type 0} (b : Bool) (start finish : List ℕ) (item : T → List Piece) → Closed (Markup start ∷ []) → Closed (Markup finish ∷ []) → ((x : T) → Closed (item x)) → (xs : List T)
    → Closed (if b then [] else (Markup start ∷ []) ++ flat_map item xs ++ Markup finish ∷ [])
section_closed_at true start finish item first last each xs = record { is = refl }
section_closed_at false start finish item first last each xs = closed-append (closed-append first (closed-flat_map item each xs)) last

section_closed : {T : Type 0} (start finish : List ℕ) (item : T → List Piece) → Closed (Markup start ∷ []) → Closed (Markup finish ∷ []) → ((x : T) → Closed (item x)) → (xs : List T) → Closed (section start item finish xs)
section_closed start finish item first last each xs = section_closed_at (length xs == 0) start finish item first last each xs

event_closed : (named : List ℕ → List ℕ) (e : Event) → Closed (event named e)
event_closed named (SupersededBy newer id note) =
    closed-append (closed-append (is_closed (Markup SUPERSEDED_BY.now ∷ []) refl) (link_closed named newer)) (is_closed (operation (named id) note) refl)
event_closed named (RetiredBy id note) = record { is = refl }

standing_closed : (kind : List ℕ) (s : Standing) → Closed (kind_and_standing kind s)
standing_closed kind Valid = record { is = refl }
standing_closed kind Superseded = record { is = refl }
standing_closed kind Retired = record { is = refl }

by_closed : (named : List ℕ → List ℕ) (l : Link) → Closed (by named l)
by_closed named l = closed-append (closed-append (is_closed (Markup BY.now ∷ []) refl) (link_closed named l)) (is_closed (Markup AFTER_BY.now ∷ []) refl)

drawing_closed : (south west north east : List ℕ) (crosses : Bool) → Closed (drawing south west north east crosses)
drawing_closed south west north east true = record { is = refl }
drawing_closed south west north east false = record { is = refl }

map_closed : (b : Box) → Closed (map_of b)
map_closed b =
    closed-append (closed-append (is_closed (Markup MAP.now ∷ []) refl) (drawing_closed b.south b.west b.north b.east b.crosses))
    (is_closed (caption b.south b.west b.north b.east) refl)

text_closed : (named : List ℕ → List ℕ) (o : Option (List ℕ)) (e : Entry) → Closed (text_or_link named o e.boxes e.text e.questions)
text_closed named None e =
    closed-append (closed-append (closed-flat_map map_of map_closed e.boxes) (is_closed (entry_text e.text) refl)) (closed-flat_map question (λ text. record { is = refl }) e.questions)
text_closed named (Some id) e = is_closed (same_text id (named id)) refl

conflict_link_closed : (authority code : List ℕ) (b : Bool) → Closed (conflict_link authority code b)
conflict_link_closed authority code true = record { is = refl }
conflict_link_closed authority code false = record { is = refl }

entry_closed : (named : List ℕ → List ℕ) (e : Entry) → Closed (entry named e)
entry_closed named e =
    closed-append (closed-append (closed-append (closed-append (closed-append (closed-append (closed-append (closed-append (closed-append
    (is_closed (entry_start e.id e.authority e.code e.name) refl) (text_closed named e.same_text_as e)) (is_closed (entry_id (named e.id) e.note) refl))
    (closed-flat_map (event named) (event_closed named) e.events)) (is_closed (Markup AFTER_HISTORY.now ∷ []) refl))
    (closed-flat_map area (λ text. record { is = refl }) e.areas)) (standing_closed e.kind e.standing))
    (closed-flat_map (by named) (by_closed named) e.links)) (conflict_link_closed e.authority e.code e.in_conflict)) (is_closed (Markup AFTER_ENTRY.now ∷ []) refl)

page_closed : (named : List ℕ → List ℕ) (s : Shown) → Closed (page named s)
page_closed named s =
    closed-append (closed-append (closed-append (closed-append (closed-append (closed-append (closed-append (closed-append (closed-append (closed-append
    (is_closed (head s.title) refl) (is_closed (figures s.figures) refl)) (is_closed (Markup AFTER_FIGURES.now ∷ []) refl))
    (section_closed CONFLICTS_START.now CONFLICTS_END.now (conflict named) (record { is = refl }) (record { is = refl }) (conflict_closed named) s.conflicts))
    (section_closed AWAITED_START.now AWAITED_END.now (awaited named) (record { is = refl }) (record { is = refl }) (λ id. record { is = refl }) s.awaited))
    (section_closed GAPS_START.now GAPS_END.now (gap named) (record { is = refl }) (record { is = refl }) (λ g. record { is = refl }) s.gaps))
    (is_closed (Markup ENTRIES_START.now ∷ []) refl)) (closed-flat_map (entry named) (entry_closed named) s.entries)) (is_closed (Markup ENTRIES_END.now ∷ []) refl))
    (section_closed RETIRED_START.now RETIRED_END.now (entry named) (record { is = refl }) (record { is = refl }) (entry_closed named) s.retired)) (is_closed end refl)

pub places : (named : List ℕ → List ℕ) (s : Shown) → past_all (Some Content) (page named s) ≡ Some Content
places named s = (page_closed named s).is

-- ---- without texts

each_alike : {T : Type 0} (f g : T → List Piece) (shape : T → T) → ((x : T) → Alike (f x) (g (shape x))) → (xs : List T) → Alike (flat_map f xs) (flat_map g (map shape xs))
each_alike f g shape each [] = record { is = refl }
each_alike f g shape each (x ∷ xs) = alike-append (each x) (each_alike f g shape each xs)

link_alike : (named other : List ℕ → List ℕ) (l : Link) → Alike (link named l) (link other (link_shape l))
link_alike named other (Entered id authority code) = record { is = refl }
link_alike named other (Awaited id) = record { is = refl }

word_alike_at : (kind : RunKind) (text : List ℕ) → Alike (word (record { kind = kind; text = text })) (word (record { kind = kind; text = [] }))
word_alike_at Plain text = record { is = refl }
word_alike_at Differs text = record { is = refl }
word_alike_at Folded text = record { is = refl }

word_alike : (w : Word) → Alike (word w) (word (word_shape w))
word_alike w = word_alike_at w.kind w.text

side_alike : (named other : List ℕ → List ℕ) (s : Side) → Alike (side named s) (side other (side_shape s))
side_alike named other s =
    alike-append (alike-append (is_alike (side_start s.id (named s.id) s.note) (side_start [] (other []) []) refl) (alike-flat_map word word_shape word_alike s.words))
    (is_alike (Markup AFTER_SIDE.now ∷ []) (Markup AFTER_SIDE.now ∷ []) refl)

pair_alike : (named other : List ℕ → List ℕ) (p : Pair) → Alike (pair named p) (pair other (pair_shape p))
pair_alike named other p =
    alike-append (alike-append (alike-append (is_alike (Markup PAIR.now ∷ []) (Markup PAIR.now ∷ []) refl) (side_alike named other p.first)) (side_alike named other p.second))
    (is_alike (Markup AFTER_PAIR.now ∷ []) (Markup AFTER_PAIR.now ∷ []) refl)

conflict_alike : (named other : List ℕ → List ℕ) (c : Conflict) → Alike (conflict named c) (conflict other (conflict_shape c))
conflict_alike named other c =
    alike-append (is_alike (conflict_start c.authority c.code) (conflict_start [] []) refl) (each_alike (pair named) (pair other) pair_shape (pair_alike named other) c.pairs)

section_alike_at : {T : Type 0} (b c : Bool) → b ≡ c → (start finish : List ℕ) (item other : T → List Piece) (shape : T → T) → ((x : T) → Alike (item x) (other (shape x))) → (xs : List T)
    → Alike (if b then [] else (Markup start ∷ []) ++ flat_map item xs ++ Markup finish ∷ []) (if c then [] else (Markup start ∷ []) ++ flat_map other (map shape xs) ++ Markup finish ∷ [])
section_alike_at true true e start finish item other shape each xs = record { is = refl }
section_alike_at true false e start finish item other shape each xs = absurd cc
section_alike_at false true e start finish item other shape each xs = absurd cc
section_alike_at false false e start finish item other shape each xs =
    alike-append (alike-append (is_alike (Markup start ∷ []) (Markup start ∷ []) refl) (each_alike item other shape each xs)) (is_alike (Markup finish ∷ []) (Markup finish ∷ []) refl)

section_alike : {T : Type 0} (start finish : List ℕ) (item other : T → List Piece) (shape : T → T) → ((x : T) → Alike (item x) (other (shape x))) → (xs : List T)
    → Alike (section start item finish xs) (section start other finish (map shape xs))
section_alike start finish item other shape each xs = section_alike_at (length xs == 0) (length (map shape xs) == 0) (ap (λ n. n == 0) (sym (length-map xs shape))) start finish item other shape each xs

event_alike : (named other : List ℕ → List ℕ) (e : Event) → Alike (event named e) (event other (event_shape e))
event_alike named other (SupersededBy newer id note) =
    alike-append (alike-append (is_alike (Markup SUPERSEDED_BY.now ∷ []) (Markup SUPERSEDED_BY.now ∷ []) refl) (link_alike named other newer))
    (is_alike (operation (named id) note) (operation (other []) []) refl)
event_alike named other (RetiredBy id note) = record { is = refl }

by_alike : (named other : List ℕ → List ℕ) (l : Link) → Alike (by named l) (by other (link_shape l))
by_alike named other l =
    alike-append (alike-append (is_alike (Markup BY.now ∷ []) (Markup BY.now ∷ []) refl) (link_alike named other l)) (is_alike (Markup AFTER_BY.now ∷ []) (Markup AFTER_BY.now ∷ []) refl)

drawing_alike : (south west north east : List ℕ) (crosses : Bool) → Alike (drawing south west north east crosses) (drawing [] [] [] [] crosses)
drawing_alike south west north east true = record { is = refl }
drawing_alike south west north east false = record { is = refl }

map_alike : (b : Box) → Alike (map_of b) (map_of (box_shape b))
map_alike b =
    alike-append (alike-append (is_alike (Markup MAP.now ∷ []) (Markup MAP.now ∷ []) refl) (drawing_alike b.south b.west b.north b.east b.crosses))
    (is_alike (caption b.south b.west b.north b.east) (caption [] [] [] []) refl)

text_alike : (named other : List ℕ → List ℕ) (o : Option (List ℕ)) (e : Entry) → Alike (text_or_link named o e.boxes e.text e.questions) (text_or_link other (link_to_text o) (map box_shape e.boxes) [] (map no_text e.questions))
text_alike named other None e =
    alike-append (alike-append (alike-flat_map map_of box_shape map_alike e.boxes) (is_alike (entry_text e.text) (entry_text []) refl)) (alike-flat_map question no_text (λ text. record { is = refl }) e.questions)
text_alike named other (Some id) e = is_alike (same_text id (named id)) (same_text [] (other [])) refl

conflict_link_alike : (authority code : List ℕ) (b : Bool) → Alike (conflict_link authority code b) (conflict_link [] [] b)
conflict_link_alike authority code true = record { is = refl }
conflict_link_alike authority code false = record { is = refl }

entry_alike : (named other : List ℕ → List ℕ) (e : Entry) → Alike (entry named e) (entry other (entry_shape e))
entry_alike named other e =
    alike-append (alike-append (alike-append (alike-append (alike-append (alike-append (alike-append (alike-append (alike-append
    (is_alike (entry_start e.id e.authority e.code e.name) (entry_start [] [] [] []) refl) (text_alike named other e.same_text_as e)) (is_alike (entry_id (named e.id) e.note) (entry_id (other []) []) refl))
    (each_alike (event named) (event other) event_shape (event_alike named other) e.events)) (is_alike (Markup AFTER_HISTORY.now ∷ []) (Markup AFTER_HISTORY.now ∷ []) refl))
    (alike-flat_map area no_text (λ text. record { is = refl }) e.areas)) (is_alike (kind_and_standing e.kind e.standing) (kind_and_standing [] e.standing) refl))
    (each_alike (by named) (by other) link_shape (by_alike named other) e.links)) (conflict_link_alike e.authority e.code e.in_conflict)) (is_alike (Markup AFTER_ENTRY.now ∷ []) (Markup AFTER_ENTRY.now ∷ []) refl)

page_alike : (named other : List ℕ → List ℕ) (s : Shown) → Alike (page named s) (page other (shape s))
page_alike named other s =
    alike-append (alike-append (alike-append (alike-append (alike-append (alike-append (alike-append (alike-append (alike-append (alike-append
    (is_alike (head s.title) (head []) refl) (is_alike (figures s.figures) (figures figures_shape) refl)) (is_alike (Markup AFTER_FIGURES.now ∷ []) (Markup AFTER_FIGURES.now ∷ []) refl))
    (section_alike CONFLICTS_START.now CONFLICTS_END.now (conflict named) (conflict other) conflict_shape (conflict_alike named other) s.conflicts))
    (section_alike AWAITED_START.now AWAITED_END.now (awaited named) (awaited other) no_text (λ id. record { is = refl }) s.awaited))
    (section_alike GAPS_START.now GAPS_END.now (gap named) (gap other) gap_shape (λ g. record { is = refl }) s.gaps))
    (is_alike (Markup ENTRIES_START.now ∷ []) (Markup ENTRIES_START.now ∷ []) refl)) (each_alike (entry named) (entry other) entry_shape (entry_alike named other) s.entries)) (is_alike (Markup ENTRIES_END.now ∷ []) (Markup ENTRIES_END.now ∷ []) refl))
    (section_alike RETIRED_START.now RETIRED_END.now (entry named) (entry other) entry_shape (entry_alike named other) s.retired)) (is_alike end end refl)

pub same : (named other : List ℕ → List ℕ) (s : Shown) → tags (html (page named s)) ≡ tags (html (page other (shape s)))
same named other s =
    (same_tags (page named s) Content Content (places named s)).0
    ∙ ap (λ ps. tags (html ps)) (page_alike named other s).is
    ∙ sym (same_tags (page other (shape s)) Content Content (places other (shape s))).0
