-- What is read of pieces.
use Rattle.std.proofs.Common.{◌≡◌, ℕ, ◌==◌, Bool, true, false, not, ◌||◌, List, [], ◌∷◌, ◌++◌, length, map, Option, Some, None, nat_lt, if◌then◌else◌, refl, sym, ap, ◌∙◌, append_assoc, append-nil, subst}
use Rattle.std.specs.List.{flat_map, list_all}
use Rattle.std.proofs.lemmas.Bool.{and_parts}
use Rattle.std.proofs.lemmas.Bool.Decides.{Decides-eqb}
use Rattle.std.proofs.lemmas.Grind.{flat_map-append}
use Rattle.std.proofs.lemmas.List.Elements.{filter-append}
use Rattle.html_page.specs.declared.marks.Feeds.TheVariants.{Marked, Kept}
use Rattle.html_page.specs.Escaped.{escaped, unescaped, is_inert}
use Rattle.html_page.specs.Marks.{marked}
use Rattle.html_page.specs.Pieces.{Piece, Markup, Text, Lines, Short, Attribute, Numeral, bytes_of, html}
use Rattle.html_page.specs.Places.{Context, Content, Name, Tag, Equals, Quoted, Raw, Expects, Lost, may_hold, may_draw}
use Rattle.html_page.specs.Read.{Reader, start, turn, reader_after, is_read, read_from, without_feeds}
use Rattle.html_page.specs.Said.{line, lines, cut}
use Rattle.text_hidden.specs.Short.{shortened, ellipsis_of}
use Rattle.html_page.proofs.EscapedLemmas.{picked, inert}
use Rattle.html_page.proofs.PlaceLemmas.{inert_here}

-- from one reader to another these words are read, before whatever bytes
pub record Reads (here : Reader) (bytes : List ℕ) (there : Reader) (words : List ℕ) : Type 0 where
  pub place : reader_after here bytes ≡ there
  pub read : (rest : List ℕ) → unescaped (read_from here bytes ++ rest) ≡ words ++ unescaped rest

after-append : (r : Reader) (xs ys : List ℕ) → reader_after r (xs ++ ys) ≡ reader_after (reader_after r xs) ys
after-append r [] ys = refl
after-append r (x ∷ xs) ys = after-append (turn r.context r.name r.until x) xs ys

read-append : (r : Reader) (xs ys : List ℕ) → read_from r (xs ++ ys) ≡ read_from r xs ++ read_from (reader_after r xs) ys
read-append r [] ys = refl
read-append r (x ∷ xs) ys =
    ap (λ bs. (if is_read r x then x ∷ [] else []) ++ bs) (read-append (turn r.context r.name r.until x) xs ys) ∙ sym (append_assoc (if is_read r x then x ∷ [] else []) _ _)

nothing_read : (r : Reader) → Reads r [] r []
nothing_read r = record { place = refl; read = λ rest. refl }

pub reads-append : {r s t : Reader} {xs ys ws us : List ℕ} → Reads r xs s ws → Reads s ys t us → Reads r (xs ++ ys) t (ws ++ us)
reads-append {r = r} {s = s} {t = t} {xs = xs} {ys = ys} {ws = ws} {us = us} one two = record {
  place = after-append r xs ys ∙ ap (λ q. reader_after q ys) one.place ∙ two.place;
  read = λ rest.
      ap (λ bs. unescaped (bs ++ rest)) (read-append r xs ys ∙ ap (λ q. read_from r xs ++ read_from q ys) one.place)
      ∙ ap unescaped (append_assoc (read_from r xs) (read_from s ys) rest)
      ∙ one.read (read_from s ys ++ rest)
      ∙ ap (λ bs. ws ++ bs) (two.read rest)
      ∙ sym (append_assoc ws us (unescaped rest));
}

pub same_words : {r s : Reader} {xs ws us : List ℕ} → ws ≡ us → Reads r xs s ws → Reads r xs s us
same_words {ws = ws} e one = record { place = one.place; read = λ rest. one.read rest ∙ ap (λ bs. bs ++ unescaped rest) e }

-- ---- a text between tags

-- a byte of a text, unless it is a line feed
abbrev kept : ℕ → List ℕ
kept b = if not (b == 10) then b ∷ [] else []

plain_byte : (b : ℕ) (k : Bool) (rest : List ℕ) → (b == 38) ≡ false → unescaped (((if k then b ∷ [] else []) ++ []) ++ rest) ≡ (if k then b ∷ [] else []) ++ unescaped rest
plain_byte b true rest e = rw e refl
plain_byte b false rest e = refl

byte_reads : (b : ℕ) (t u v w x : Bool) → (b == 38) ≡ t → (b == 60) ≡ u → (b == 62) ≡ v → (b == 34) ≡ w → (b == 39) ≡ x
    → Reads start (picked b t u v w x) start (kept b)
byte_reads b true u v w x e _ _ _ _ = same_words (ap kept (sym ((Decides-eqb b 38).0 e))) (record { place = refl; read = λ rest. refl })
byte_reads b false true v w x _ e _ _ _ = same_words (ap kept (sym ((Decides-eqb b 60).0 e))) (record { place = refl; read = λ rest. refl })
byte_reads b false false true w x _ _ e _ _ = same_words (ap kept (sym ((Decides-eqb b 62).0 e))) (record { place = refl; read = λ rest. refl })
byte_reads b false false false true x _ _ _ e _ = same_words (ap kept (sym ((Decides-eqb b 34).0 e))) (record { place = refl; read = λ rest. refl })
byte_reads b false false false false true _ _ _ _ e = same_words (ap kept (sym ((Decides-eqb b 39).0 e))) (record { place = refl; read = λ rest. refl })
byte_reads b false false false false false t u v w x = record { place = rw u refl; read = λ rest. rw u (plain_byte b (not (b == 10)) rest t) }

text_reads : (text : List ℕ) → Reads start (escaped text) start (without_feeds text)
text_reads [] = nothing_read start
text_reads (b ∷ text) =
    same_words (sym (filter-append (λ c. not (c == 10)) (b ∷ []) text)) (reads-append (byte_reads b _ _ _ _ _ refl refl refl refl refl) (text_reads text))

more_reads : (b : Bool) → Reads start (if b then 226 ∷ 128 ∷ 166 ∷ [] else []) start (if b then 226 ∷ 128 ∷ 166 ∷ [] else [])
more_reads true = record { place = refl; read = λ rest. refl }
more_reads false = record { place = refl; read = λ rest. refl }

cut_reads : (text : List ℕ) → Reads start (escaped (marked Marked (shortened text)) ++ ellipsis_of text) start (cut text)
cut_reads text = reads-append (text_reads (marked Marked (shortened text))) (more_reads (nat_lt (length (shortened text)) (length text)))

-- ---- a text in quotation marks

record Silent (r : Reader) (xs : List ℕ) : Type 0 where
  place : reader_after r xs ≡ r
  silent : read_from r xs ≡ []

in_value : (a name until xs : List ℕ) → (may_hold a || may_draw a) ≡ true → is_inert xs ≡ true → Silent (record { context = Quoted a; name = name; until = until }) xs
in_value a name until [] h e = record { place = refl; silent = refl }
in_value a name until (b ∷ bs) h e =
    let each = and_parts _ _ e in
    let here = inert_here b bs _ refl each.0 in
    let rest = in_value a name until bs h each.1 in
    record { place = rw (here.1, h) rest.place; silent = rw (here.1, h) rest.silent }

value_reads : (a name until text : List ℕ) → (may_hold a || may_draw a) ≡ true
    → Reads (record { context = Quoted a; name = name; until = until }) (escaped (marked Marked text)) (record { context = Quoted a; name = name; until = until }) []
value_reads a name until text h =
    let silent = in_value a name until (escaped (marked Marked text)) h (inert (marked Marked text)) in
    record { place = silent.place; read = λ rest. ap (λ bs. unescaped (bs ++ rest)) silent.silent }

-- ---- pieces, if their words can be told without their texts

pub record Found : Type 0 where
  pub there : Reader
  pub words : List ℕ

abbrev text_at : Context → List ℕ → List ℕ → List ℕ → Option Found
text_at Content [] [] words = Some (record { there = start; words = words })
text_at Content [] (c ∷ until) words = None
text_at Content (c ∷ name) until words = None
text_at (Name n) name until words = None
text_at (Tag a) name until words = None
text_at (Equals a) name until words = None
text_at (Quoted a) name until words = None
text_at (Raw end) name until words = None
text_at (Expects end) name until words = None
text_at Lost name until words = None

abbrev value_at : Context → List ℕ → List ℕ → Option Found
value_at Content name until = None
value_at (Name n) name until = None
value_at (Tag a) name until = None
value_at (Equals a) name until = None
value_at (Quoted a) name until = if may_hold a || may_draw a then Some (record { there = record { context = Quoted a; name = name; until = until }; words = [] }) else None
value_at (Raw end) name until = None
value_at (Expects end) name until = None
value_at Lost name until = None

abbrev constant_at : Reader → List ℕ → Option Found
constant_at r constant = if list_all (λ b. not (b == 38)) (read_from r constant) then Some (record { there = reader_after r constant; words = read_from r constant }) else None

abbrev piece_found : Reader → Piece → Option Found
piece_found r (Markup constant) = constant_at r constant
piece_found r (Text text) = text_at r.context r.name r.until (line text)
piece_found r (Lines text) = text_at r.context r.name r.until (lines text)
piece_found r (Short text) = text_at r.context r.name r.until (cut text)
piece_found r (Attribute text) = value_at r.context r.name r.until
piece_found r (Numeral text) = value_at r.context r.name r.until

abbrev with_words : List ℕ → Option Found → Option Found
with_words words None = None
with_words words (Some f) = Some (record { there = f.there; words = words ++ f.words })

abbrev then_found : Option Found → (Reader → Option Found) → Option Found
then_found None next = None
then_found (Some f) next = with_words f.words (next f.there)

abbrev pub found : Reader → List Piece → Option Found
found r [] = Some (record { there = r; words = [] })
found r (p ∷ ps) = then_found (piece_found r p) (λ s. found s ps)

-- if the words can be told, they are read
abbrev IsFound : Reader → List ℕ → Option Found → Type 0
IsFound r bytes None = true ≡ true
IsFound r bytes (Some f) = Reads r bytes f.there f.words

plain_at : (b : ℕ) (bytes rest : List ℕ) (t : Bool) → (b == 38) ≡ t → not t ≡ true → unescaped (bytes ++ rest) ≡ bytes ++ unescaped rest
    → unescaped (b ∷ (bytes ++ rest)) ≡ b ∷ (bytes ++ unescaped rest)
plain_at b bytes rest true t e others = cc
plain_at b bytes rest false t e others = rw t (ap (λ bs. b ∷ bs) others)

plain_reads : (bytes rest : List ℕ) → list_all (λ b. not (b == 38)) bytes ≡ true → unescaped (bytes ++ rest) ≡ bytes ++ unescaped rest
plain_reads [] rest e = refl
plain_reads (b ∷ bytes) rest e =
    let each = and_parts _ _ e in
    plain_at b bytes rest _ refl each.0 (plain_reads bytes rest each.1)

constant_found : (r : Reader) (constant : List ℕ) (t : Bool) → list_all (λ b. not (b == 38)) (read_from r constant) ≡ t
    → IsFound r constant (if t then Some (record { there = reader_after r constant; words = read_from r constant }) else None)
constant_found r constant true e = record { place = refl; read = λ rest. plain_reads (read_from r constant) rest e }
constant_found r constant false e = refl

text_found : (context : Context) (name until bytes words : List ℕ) → Reads start bytes start words
    → IsFound (record { context = context; name = name; until = until }) bytes (text_at context name until words)
text_found Content [] [] bytes words reads = reads
text_found Content [] (c ∷ until) bytes words reads = refl
text_found Content (c ∷ name) until bytes words reads = refl
text_found (Name n) name until bytes words reads = refl
text_found (Tag a) name until bytes words reads = refl
text_found (Equals a) name until bytes words reads = refl
text_found (Quoted a) name until bytes words reads = refl
text_found (Raw end) name until bytes words reads = refl
text_found (Expects end) name until bytes words reads = refl
text_found Lost name until bytes words reads = refl

value_found_at : (a name until text : List ℕ) (h : Bool) → (may_hold a || may_draw a) ≡ h
    → IsFound (record { context = Quoted a; name = name; until = until }) (escaped (marked Marked text))
    (if h then Some (record { there = record { context = Quoted a; name = name; until = until }; words = [] }) else None)
value_found_at a name until text true h = value_reads a name until text h
value_found_at a name until text false h = refl

value_found : (context : Context) (name until text : List ℕ)
    → IsFound (record { context = context; name = name; until = until }) (escaped (marked Marked text)) (value_at context name until)
value_found Content name until text = refl
value_found (Name n) name until text = refl
value_found (Tag a) name until text = refl
value_found (Equals a) name until text = refl
value_found (Quoted a) name until text = value_found_at a name until text _ refl
value_found (Raw end) name until text = refl
value_found (Expects end) name until text = refl
value_found Lost name until text = refl

piece_is_found : (r : Reader) (p : Piece) → IsFound r (bytes_of p) (piece_found r p)
unfolding bytes_of
piece_is_found r (Markup constant) = constant_found r constant _ refl
piece_is_found r (Text text) = text_found r.context r.name r.until _ _ (text_reads (marked Marked text))
piece_is_found r (Lines text) = text_found r.context r.name r.until _ _ (text_reads (marked Kept text))
piece_is_found r (Short text) = text_found r.context r.name r.until _ _ (cut_reads text)
piece_is_found r (Attribute text) = value_found r.context r.name r.until text
piece_is_found r (Numeral text) = value_found r.context r.name r.until text

second_found : (r : Reader) (xs ys : List ℕ) (f : Found) (o : Option Found) → Reads r xs f.there f.words → IsFound f.there ys o → IsFound r (xs ++ ys) (with_words f.words o)
second_found r xs ys f None one two = refl
second_found r xs ys f (Some g) one two = reads-append one two

both_found : (r : Reader) (xs ys : List ℕ) (o : Option Found) (next : Reader → Option Found) → IsFound r xs o → ((s : Reader) → IsFound s ys (next s)) → IsFound r (xs ++ ys) (then_found o next)
both_found r xs ys None next one two = refl
both_found r xs ys (Some f) next one two = second_found r xs ys f (next f.there) one (two f.there)

is_found : (ps : List Piece) (r : Reader) → IsFound r (html ps) (found r ps)
unfolding html
is_found [] r = nothing_read r
is_found (p ∷ ps) r = both_found r (bytes_of p) (html ps) (piece_found r p) (λ s. found s ps) (piece_is_found r p) (is_found ps)

-- ---- parts of a page

abbrev joined : List (List ℕ) → List ℕ
joined phrases = flat_map (λ (w : List ℕ). w) phrases

-- the pieces lead from between tags to between tags, and say these words
pub record Says (ps : List Piece) (phrases : List (List ℕ)) : Type 0 where
  pub is : Reads start (html ps) start (joined phrases)

pub is_said : (ps : List Piece) (phrases : List (List ℕ)) → found start ps ≡ Some (record { there = start; words = joined phrases }) → Says ps phrases
is_said ps phrases e = record { is = subst (λ (o : Option Found). IsFound start (html ps) o) e (is_found ps start) }

pub says-append : {ps qs : List Piece} {ws us : List (List ℕ)} → Says ps ws → Says qs us → Says (ps ++ qs) (ws ++ us)
unfolding html
says-append {ps = ps} {qs = qs} {ws = ws} {us = us} one two =
    record { is = subst (λ (bytes : List ℕ). Reads start bytes start (joined (ws ++ us))) (sym (flat_map-append bytes_of ps qs)) (same_words (sym (flat_map-append (λ (w : List ℕ). w) ws us)) (reads-append one.is two.is)) }

-- pieces without words follow
pub says-nothing : {ps qs : List Piece} {ws : List (List ℕ)} → Says ps ws → Says qs [] → Says (ps ++ qs) ws
says-nothing {ps = ps} {qs = qs} {ws = ws} one two = subst (λ (us : List (List ℕ)). Says (ps ++ qs) us) (append-nil ws) (says-append one two)

pub says-each : {T : Type 0} (f : T → List Piece) (g : T → List (List ℕ)) → ((x : T) → Says (f x) (g x)) → (xs : List T) → Says (flat_map f xs) (flat_map g xs)
says-each f g each [] = is_said [] [] refl
says-each f g each (x ∷ xs) = says-append (each x) (says-each f g each xs)

pub says-one : {T : Type 0} (f : T → List Piece) (g : T → List ℕ) → ((x : T) → Says (f x) (g x ∷ [])) → (xs : List T) → Says (flat_map f xs) (map g xs)
says-one f g each [] = is_said [] [] refl
says-one f g each (x ∷ xs) = says-append (each x) (says-one f g each xs)
