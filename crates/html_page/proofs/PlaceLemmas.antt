-- Tags of a page and of its pieces.
use Rattle.std.proofs.Common.{◌≡◌, ℕ, ◌==◌, Bool, true, false, not, ◌||◌, List, [], ◌∷◌, ◌++◌, map, Some, None, is_some, length, nat_lt, if◌then◌else◌, refl, sym, ap, ◌∙◌, append_assoc}
use Rattle.std.proofs.lemmas.Bool.{and_parts, or_left, or_right}
use Rattle.std.proofs.lemmas.Bool.Decides.{Decides-eqb}
use Rattle.html_page.specs.Escaped.{escaped, reference, is_inert}
use Rattle.html_page.specs.Pieces.{Piece, Markup, Text, Lines, Short, Attribute, Numeral, bytes_of, html, blank}
use Rattle.html_page.specs.Places.{Context, Content, Name, Tag, Equals, Quoted, Raw, Expects, Lost, may_hold, may_draw, step, after, tag_byte, tags_from, past, past_all}
use Rattle.html_page.specs.declared.marks.Feeds.TheVariants.{Marked, Kept}
use Rattle.html_page.specs.Marks.{marked}
use Rattle.text_hidden.specs.Short.{shortened}
use Rattle.html_page.proofs.EscapedLemmas.{inert}

after-append : (p : Context) (xs ys : List ℕ) → after p (xs ++ ys) ≡ after (after p xs) ys
after-append p [] ys = refl
after-append p (x ∷ xs) ys = after-append (step p x) xs ys

tags-append : (p : Context) (xs ys : List ℕ) → tags_from p (xs ++ ys) ≡ tags_from p xs ++ tags_from (after p xs) ys
tags-append p [] ys = refl
tags-append p (x ∷ xs) ys = ap (λ ts. tag_byte p x ++ ts) (tags-append (step p x) xs ys) ∙ sym (append_assoc (tag_byte p x) _ _)

-- the bytes do not change the context, and belong to no tag
pub record Stays (p : Context) (xs : List ℕ) : Type 0 where
  pub place : after p xs ≡ p
  pub no_tag : tags_from p xs ≡ []

neither : (u v w x : Bool) → not (u || (v || (w || x))) ≡ true → (u ≡ false) × (w ≡ false)
neither true v w x e = cc
neither false true w x e = cc
neither false false true x e = cc
neither false false false x e = (refl, refl)

pub inert_here : (b : ℕ) (rest : List ℕ) (t : Bool) → (b == 38) ≡ t → (if t then is_some (reference rest) else not ((b == 60) || ((b == 62) || ((b == 34) || (b == 39))))) ≡ true
    → ((b == 60) ≡ false) × ((b == 34) ≡ false)
inert_here b rest true t e = let is = (Decides-eqb b 38).0 t in (ap (λ c. c == 60) is, ap (λ c. c == 34) is)
inert_here b rest false t e = neither _ _ _ _ e

in_content : (xs : List ℕ) → is_inert xs ≡ true → Stays Content xs
in_content [] e = record { place = refl; no_tag = refl }
in_content (b ∷ bs) e =
    let each = and_parts _ _ e in
    let here = inert_here b bs _ refl each.0 in
    let rest = in_content bs each.1 in
    record { place = rw here.0 rest.place; no_tag = rw here.0 rest.no_tag }

in_quotes : (a xs : List ℕ) → (may_hold a || may_draw a) ≡ true → is_inert xs ≡ true → Stays (Quoted a) xs
in_quotes a [] h e = record { place = refl; no_tag = refl }
in_quotes a (b ∷ bs) h e =
    let each = and_parts _ _ e in
    let here = inert_here b bs _ refl each.0 in
    let rest = in_quotes a bs h each.1 in
    record { place = rw (here.1, h) rest.place; no_tag = rw (here.1, h) rest.no_tag }

-- the piece leads from one context to another, with its text and without it, and its tags are the same
record Passes (here there : Context) (p : Piece) : Type 0 where
  place : after here (bytes_of p) ≡ there
  blank_place : after here (bytes_of (blank p)) ≡ there
  tags : tags_from here (bytes_of p) ≡ tags_from here (bytes_of (blank p))

text_passes : (text : List ℕ) (there : Context) → Some Content ≡ Some there → Passes Content there (Text text)
unfolding bytes_of
text_passes text there e =
    let stays = in_content (escaped (marked Marked text)) (inert (marked Marked text)) in
    record { place = stays.place ∙ cc; blank_place = cc; tags = stays.no_tag }

lines_pass : (text : List ℕ) (there : Context) → Some Content ≡ Some there → Passes Content there (Lines text)
unfolding bytes_of
lines_pass text there e =
    let stays = in_content (escaped (marked Kept text)) (inert (marked Kept text)) in
    record { place = stays.place ∙ cc; blank_place = cc; tags = stays.no_tag }

-- two parts that stay
stays-append : {p : Context} {xs ys : List ℕ} → Stays p xs → Stays p ys → Stays p (xs ++ ys)
stays-append {p = p} {xs = xs} {ys = ys} one two = record {
  place = after-append p xs ys ∙ ap (λ q. after q ys) one.place ∙ two.place;
  no_tag = tags-append p xs ys ∙ (λ j. one.no_tag j ++ tags_from (one.place j) ys) ∙ two.no_tag;
}

more_stays : (b : Bool) → Stays Content (if b then 226 ∷ 128 ∷ 166 ∷ [] else [])
more_stays true = record { place = refl; no_tag = refl }
more_stays false = record { place = refl; no_tag = refl }

short_passes : (text : List ℕ) (there : Context) → Some Content ≡ Some there → Passes Content there (Short text)
unfolding bytes_of
short_passes text there e =
    let first = shortened text in
    let stays = stays-append (in_content (escaped (marked Marked first)) (inert (marked Marked first))) (more_stays (nat_lt (length first) (length text))) in
    record { place = stays.place ∙ cc; blank_place = cc; tags = stays.no_tag }

numeral_passes : (a text : List ℕ) (there : Context) (h : Bool) → may_draw a ≡ h → (if h then Some (Quoted a) else None) ≡ Some there → Passes (Quoted a) there (Numeral text)
unfolding bytes_of
numeral_passes a text there false h e = cc
numeral_passes a text there true h e =
    let stays = in_quotes a (escaped (marked Marked text)) (or_right (may_hold a) (may_draw a) h) (inert (marked Marked text)) in
    record { place = stays.place ∙ cc; blank_place = cc; tags = stays.no_tag }

attribute_passes : (a text : List ℕ) (there : Context) (h : Bool) → may_hold a ≡ h → (if h then Some (Quoted a) else None) ≡ Some there → Passes (Quoted a) there (Attribute text)
unfolding bytes_of
attribute_passes a text there false h e = cc
attribute_passes a text there true h e =
    let stays = in_quotes a (escaped (marked Marked text)) (or_left (may_hold a) (may_draw a) h) (inert (marked Marked text)) in
    record { place = stays.place ∙ cc; blank_place = cc; tags = stays.no_tag }

piece_passes : (here there : Context) (p : Piece) → past here p ≡ Some there → Passes here there p
unfolding bytes_of
piece_passes here there (Markup constant) e = record { place = cc; blank_place = cc; tags = refl }
piece_passes Content there (Text text) e = text_passes text there e
piece_passes (Name n) there (Text text) e = cc
piece_passes (Tag a) there (Text text) e = cc
piece_passes (Equals a) there (Text text) e = cc
piece_passes (Quoted a) there (Text text) e = cc
piece_passes (Raw end) there (Text text) e = cc
piece_passes (Expects end) there (Text text) e = cc
piece_passes Lost there (Text text) e = cc
piece_passes Content there (Lines text) e = lines_pass text there e
piece_passes (Name n) there (Lines text) e = cc
piece_passes (Tag a) there (Lines text) e = cc
piece_passes (Equals a) there (Lines text) e = cc
piece_passes (Quoted a) there (Lines text) e = cc
piece_passes (Raw end) there (Lines text) e = cc
piece_passes (Expects end) there (Lines text) e = cc
piece_passes Lost there (Lines text) e = cc
piece_passes Content there (Short text) e = short_passes text there e
piece_passes (Name n) there (Short text) e = cc
piece_passes (Tag a) there (Short text) e = cc
piece_passes (Equals a) there (Short text) e = cc
piece_passes (Quoted a) there (Short text) e = cc
piece_passes (Raw end) there (Short text) e = cc
piece_passes (Expects end) there (Short text) e = cc
piece_passes Lost there (Short text) e = cc
piece_passes Content there (Attribute text) e = cc
piece_passes (Name n) there (Attribute text) e = cc
piece_passes (Tag a) there (Attribute text) e = cc
piece_passes (Equals a) there (Attribute text) e = cc
piece_passes (Quoted a) there (Attribute text) e = attribute_passes a text there _ refl e
piece_passes (Raw end) there (Attribute text) e = cc
piece_passes (Expects end) there (Attribute text) e = cc
piece_passes Lost there (Attribute text) e = cc
piece_passes Content there (Numeral text) e = cc
piece_passes (Name n) there (Numeral text) e = cc
piece_passes (Tag a) there (Numeral text) e = cc
piece_passes (Equals a) there (Numeral text) e = cc
piece_passes (Quoted a) there (Numeral text) e = numeral_passes a text there _ refl e
piece_passes (Raw end) there (Numeral text) e = cc
piece_passes (Expects end) there (Numeral text) e = cc
piece_passes Lost there (Numeral text) e = cc

pub past_none : (ps : List Piece) → past_all None ps ≡ None
past_none [] = refl
past_none (p ∷ ps) = refl

abbrev SameTags : Context → Context → List Piece → Type 0
SameTags here final ps = (tags_from here (html ps) ≡ tags_from here (html (map blank ps))) × (after here (html ps) ≡ final)

-- if the first piece and the other pieces have the same tags without their texts, so have all of them
joined : (here there final : Context) (p : Piece) (ps : List Piece) → Passes here there p → SameTags there final ps → SameTags here final (p ∷ ps)
unfolding html
joined here there final p ps first rest =
    let whole = tags-append here (bytes_of p) (html ps) in
    let bare = tags-append here (bytes_of (blank p)) (html (map blank ps)) in
    let led = after-append here (bytes_of p) (html ps) in
    let place = first.place in
    let blank_place = first.blank_place in
    let same : tags_from here (bytes_of p) ++ tags_from (after here (bytes_of p)) (html ps)
    ≡ tags_from here (bytes_of (blank p)) ++ tags_from (after here (bytes_of (blank p))) (html (map blank ps)) = cc (place, blank_place, first.tags, rest.0) in
    let end : after (after here (bytes_of p)) (html ps) ≡ final = cc (place, rest.1) in
    (whole ∙ same ∙ sym bare, led ∙ end)

pub same_tags : (ps : List Piece) (here final : Context) → past_all (Some here) ps ≡ Some final → SameTags here final ps
unfolding html
same_tags [] here final e = (refl, cc)
same_tags (p ∷ ps) here final e =
    elim (past here p) as (λ o. past here p ≡ o → past_all o ps ≡ Some final → SameTags here final (p ∷ ps)) [
      | Some there ↦ λ is rest. joined here there final p ps (piece_passes here there p is) (same_tags ps there final rest)
      | None ↦ λ is rest. let none = past_none ps in cc
    ] refl e
