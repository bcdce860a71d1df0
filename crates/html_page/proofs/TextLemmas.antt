-- The texts of a page, part by part.
use Rattle.std.proofs.Common.{◌≡◌, ◌==◌, ℕ, Bool, true, false, if◌then◌else◌, List, [], ◌∷◌, ◌++◌, length, map, Option, Some, None, refl, sym, ap₂, ◌∙◌, append-nil}
use Rattle.std.specs.List.{flat_map}
use Rattle.std.proofs.lemmas.Bool.{eqb-true}
use Rattle.std.proofs.lemmas.Grind.{flat_map-append}
use Rattle.std.proofs.lemmas.List.{nil_from_length}
use Rattle.html_page.specs.Pieces.{Piece, Markup}
use Rattle.html_page.specs.Shown.{Link, Entered, Awaited, Event, SupersededBy, RetiredBy, Box, Entry, Word, Side, Pair, Conflict, Shown}
use Rattle.html_page.specs.declared.run.RunKind.{RunKind}
use Rattle.html_page.specs.declared.run.RunKind.TheVariants.{Plain, Differs, Folded}
use Rattle.html_page.specs.declared.markup.TheConstants.{AFTER_FIGURES, PAIR, AFTER_PAIR, AFTER_SIDE, CONFLICTS_START, CONFLICTS_END, AWAITED_START, AWAITED_END, GAPS_START, GAPS_END, ENTRIES_START, MAP, SUPERSEDED_BY, AFTER_HISTORY, BY, AFTER_BY, AFTER_ENTRY, ENTRIES_END, RETIRED_START, RETIRED_END}
use Rattle.html_page.specs.Templates.{head, figures, end, link, word, side_start, side, pair, conflict_start, conflict, section, awaited, gap, drawing, caption, map_of, entry_start, entry_text, same_text, text_or_link, question, entry_id, operation, event, area, kind_and_standing, by, conflict_link, entry, page}
use Rattle.html_page.specs.Texts.{text_in, texts, side_texts, pair_texts, conflict_texts, texts_unless, row_texts, shown_texts}

-- the pieces have these texts
record Has (ps : List Piece) (ts : List (List ℕ)) : Type 0 where
  is : texts ps ≡ ts

has : (ps : List Piece) (ts : List (List ℕ)) → texts ps ≡ ts → Has ps ts
has ps ts e = record { is = e }

both : {ps qs : List Piece} {ts us : List (List ℕ)} → Has ps ts → Has qs us → Has (ps ++ qs) (ts ++ us)
both {ps = ps} {qs = qs} one two = record { is = flat_map-append text_in ps qs ∙ ap₂ (λ a b. a ++ b) one.is two.is }

-- pieces without texts follow
ended : {ps qs : List Piece} {ts : List (List ℕ)} → Has ps ts → Has qs [] → Has (ps ++ qs) ts
ended {ps = ps} {qs = qs} {ts = ts} one two = record { is = (both one two).is ∙ append-nil ts }

each_none : {T : Type 0} (f : T → List Piece) → ((x : T) → Has (f x) []) → (xs : List T) → Has (flat_map f xs) []
each_none f each [] = record { is = refl }
each_none f each (x ∷ xs) = both (each x) (each_none f each xs)

each_has : {T : Type 0} (f : T → List Piece) (g : T → List (List ℕ)) → ((x : T) → Has (f x) (g x)) → (xs : List T) → Has (flat_map f xs) (flat_map g xs)
each_has f g each [] = record { is = refl }
each_has f g each (x ∷ xs) = both (each x) (each_has f g each xs)

each_one : {T : Type 0} (f : T → List Piece) (g : T → List ℕ) → ((x : T) → Has (f x) (g x ∷ [])) → (xs : List T) → Has (flat_map f xs) (map g xs)
each_one f g each [] = record { is = refl }
each_one f g each (x ∷ xs) = both (each x) (each_one f g each xs)

-- ---- sections

section_at : {T : Type 0} (b : Bool) (start finish : List ℕ) (item : T → List Piece) (xs : List T) (ts : List (List ℕ)) → (b ≡ true → ts ≡ []) → Has (flat_map item xs) ts
    → Has (if b then [] else (Markup start ∷ []) ++ flat_map item xs ++ Markup finish ∷ []) ts
section_at true start finish item xs ts none items = record { is = sym (none refl) }
section_at false start finish item xs ts none items = ended (both (has (Markup start ∷ []) [] refl) items) (has (Markup finish ∷ []) [] refl)

section_has : {T : Type 0} (start finish : List ℕ) (item : T → List Piece) (g : T → List (List ℕ)) → ((x : T) → Has (item x) (g x)) → (xs : List T) → Has (section start item finish xs) (flat_map g xs)
section_has start finish item g each xs = section_at (length xs == 0) start finish item xs (flat_map g xs) (λ e j. flat_map g (nil_from_length xs (eqb-true (length xs) 0 e) j)) (each_has item g each xs)

section_none : {T : Type 0} (start finish : List ℕ) (item : T → List Piece) → ((x : T) → Has (item x) []) → (xs : List T) → Has (section start item finish xs) []
section_none start finish item each xs = section_at (length xs == 0) start finish item xs [] (λ e. refl) (each_none item each xs)

-- ---- the parts of a page

link_has : (named : List ℕ → List ℕ) (l : Link) → Has (link named l) []
link_has named (Entered id authority code) = record { is = refl }
link_has named (Awaited id) = record { is = refl }

word_at : (kind : RunKind) (text : List ℕ) → Has (word (record { kind = kind; text = text })) (text ∷ [])
word_at Plain text = record { is = refl }
word_at Differs text = record { is = refl }
word_at Folded text = record { is = refl }

side_has : (named : List ℕ → List ℕ) (s : Side) → Has (side named s) (side_texts s)
side_has named s =
    ended (both (has (side_start s.id (named s.id) s.note) [] refl) (each_one word (λ (w : Word). w.text) (λ w. word_at w.kind w.text) s.words)) (has (Markup AFTER_SIDE.now ∷ []) [] refl)

pair_has : (named : List ℕ → List ℕ) (p : Pair) → Has (pair named p) (pair_texts p)
pair_has named p = ended (both (both (has (Markup PAIR.now ∷ []) [] refl) (side_has named p.first)) (side_has named p.second)) (has (Markup AFTER_PAIR.now ∷ []) [] refl)

conflict_has : (named : List ℕ → List ℕ) (c : Conflict) → Has (conflict named c) (conflict_texts c)
conflict_has named c = both (has (conflict_start c.authority c.code) [] refl) (each_has (pair named) pair_texts (pair_has named) c.pairs)

event_has : (named : List ℕ → List ℕ) (e : Event) → Has (event named e) []
event_has named (SupersededBy newer id note) = both (both (has (Markup SUPERSEDED_BY.now ∷ []) [] refl) (link_has named newer)) (has (operation (named id) note) [] refl)
event_has named (RetiredBy id note) = record { is = refl }

by_has : (named : List ℕ → List ℕ) (l : Link) → Has (by named l) []
by_has named l = both (both (has (Markup BY.now ∷ []) [] refl) (link_has named l)) (has (Markup AFTER_BY.now ∷ []) [] refl)

drawing_has : (south west north east : List ℕ) (crosses : Bool) → Has (drawing south west north east crosses) []
drawing_has south west north east true = record { is = refl }
drawing_has south west north east false = record { is = refl }

map_has : (b : Box) → Has (map_of b) []
map_has b = both (both (has (Markup MAP.now ∷ []) [] refl) (drawing_has b.south b.west b.north b.east b.crosses)) (has (caption b.south b.west b.north b.east) [] refl)

-- each question is one text
questions_are : (qs : List (List ℕ)) → Has (flat_map question qs) qs
questions_are [] = record { is = refl }
questions_are (q ∷ qs) = both (has (question q) (q ∷ []) refl) (questions_are qs)

content_has : (named : List ℕ → List ℕ) (o : Option (List ℕ)) (e : Entry) → Has (text_or_link named o e.boxes e.text e.questions) (texts_unless o e)
content_has named None e = both (both (each_none map_of map_has e.boxes) (has (entry_text e.text) (e.text ∷ []) refl)) (questions_are e.questions)
content_has named (Some id) e = has (same_text id (named id)) [] refl

conflict_link_has : (authority code : List ℕ) (b : Bool) → Has (conflict_link authority code b) []
conflict_link_has authority code true = record { is = refl }
conflict_link_has authority code false = record { is = refl }

entry_has : (named : List ℕ → List ℕ) (e : Entry) → Has (entry named e) (row_texts e)
entry_has named e =
    ended (ended (ended (ended (ended (ended (ended (ended (both (has (entry_start e.id e.authority e.code e.name) [] refl) (content_has named e.same_text_as e)) (has (entry_id (named e.id) e.note) [] refl))
    (each_none (event named) (event_has named) e.events)) (has (Markup AFTER_HISTORY.now ∷ []) [] refl))
    (each_none area (λ text. record { is = refl }) e.areas)) (has (kind_and_standing e.kind e.standing) [] refl))
    (each_none (by named) (by_has named) e.links)) (conflict_link_has e.authority e.code e.in_conflict)) (has (Markup AFTER_ENTRY.now ∷ []) [] refl)

page_has : (named : List ℕ → List ℕ) (s : Shown) → Has (page named s) (shown_texts s)
page_has named s =
    let before = both (both (has (head s.title) [] refl) (has (figures s.figures) [] refl)) (has (Markup AFTER_FIGURES.now ∷ []) [] refl) in
    let conflicts = both before (section_has CONFLICTS_START.now CONFLICTS_END.now (conflict named) conflict_texts (conflict_has named) s.conflicts) in
    let waiting = ended conflicts (section_none AWAITED_START.now AWAITED_END.now (awaited named) (λ id. record { is = refl }) s.awaited) in
    let gaps = ended waiting (section_none GAPS_START.now GAPS_END.now (gap named) (λ g. record { is = refl }) s.gaps) in
    let start = ended gaps (has (Markup ENTRIES_START.now ∷ []) [] refl) in
    let entries = both start (each_has (entry named) row_texts (entry_has named) s.entries) in
    let finish = ended entries (has (Markup ENTRIES_END.now ∷ []) [] refl) in
    ended (both finish (section_has RETIRED_START.now RETIRED_END.now (entry named) row_texts (entry_has named) s.retired)) (has end [] refl)

pub in_order : (named : List ℕ → List ℕ) (s : Shown) → texts (page named s) ≡ shown_texts s
in_order named s = (page_has named s).is
