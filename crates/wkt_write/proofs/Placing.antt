-- The tokens of a tree's text are those of the tree.
use Rattle.std.proofs.Common.{◌≡◌, ℕ, zero, suc, ◌+◌, ◌*◌, List, [], ◌∷◌, ◌++◌, length, replicate, true, refl, sym, ap, ◌∙◌, subst, append_assoc, append-nil, arith}
use Rattle.std.specs.List.{AllPass, flat_map}
use Rattle.std.proofs.lemmas.List.Elements.{All-nil, All-cons}
use Rattle.wkt_tree.specs.declared.token.Delimiter.TheVariants.{Square}
use Rattle.wkt_tree.specs.declared.token.TokenKind.{TokenKind}
use Rattle.wkt_tree.specs.declared.token.TokenKind.TheVariants.{Word, Quoted, Number, Comma, Open, Close}
use Rattle.wkt_tree.specs.Bytes.{is_blank, is_word_byte, is_number_byte, begun_by}
use Rattle.wkt_tree.specs.Tree.{Piece, Tok, tok, Item, Items, last, more, tokens, all_tokens, Within, AllWithin}
use Rattle.wkt_tree.specs.Tree as tree
use Rattle.wkt_tree.specs.Tokens.{Stops, is_mark, Ends, First, Front, end_of, doubled}
use Rattle.wkt_grammar.specs.Bare.{Bare, Bares, text, number, word, node, none, and, bare, all_bare}
use Rattle.wkt_write.specs.WellFormed.{IsToken, IsText, WellFormed, AllWellFormed}
use Rattle.wkt_write.specs.declared.layout.Layout as layouts
use Rattle.wkt_write.specs.declared.layout.Layout.TheVariants.{OneLine, Root, Inside}
use Rattle.wkt_write.specs.Layout.{before, inner, laid, laid_all, laid_behind}

abbrev pub piece : ℕ → List ℕ → Piece
piece place bytes = record { place = place; bytes = bytes }

-- the rest does not lengthen a token before it
pub record StopsAll (rest : List ℕ) : Type 0 where
  pub of_word : Stops is_word_byte rest
  pub of_number : Stops is_number_byte rest
  pub of_text : Stops is_mark rest

-- ---- one token

-- a token after blanks is the first token of the bytes
first_behind : (k : TokenKind) (place : ℕ) (blanks bytes rest : List ℕ) → AllPass is_blank blanks → IsToken k bytes → Ends k rest → First place (blanks ++ (bytes ++ rest)) (tok k (piece (place + length blanks) bytes)) rest
first_behind k place blanks bytes rest b t e = record {
  from = bytes ++ rest;
  blank = record { blanks = blanks; all = b; whole = refl; moved = refl };
  lexeme = record { first = t.first; others = t.others; parts = t.parts; begun = t.begun; follow = t.follow; ends = e; whole = refl };
  readable = t.readable;
}

-- a token at the front is the first token of the bytes
first_here : (k : TokenKind) (place : ℕ) (bytes rest : List ℕ) → IsToken k bytes → Ends k rest → First place (bytes ++ rest) (tok k (piece place bytes)) rest
first_here k place bytes rest t e = record {
  from = bytes ++ rest;
  blank = record { blanks = []; all = All-nil _; whole = refl; moved = omega arith };
  lexeme = record { first = t.first; others = t.others; parts = t.parts; begun = t.begun; follow = t.follow; ends = e; whole = refl };
  readable = t.readable;
}

comma_token : IsToken Comma (44 ∷ [])
unfolding begun_by
comma_token = record { first = 44; others = []; parts = refl; begun = refl; follow = refl; readable = tt }

open_token : IsToken (Open Square) (91 ∷ [])
unfolding begun_by
open_token = record { first = 91; others = []; parts = refl; begun = refl; follow = refl; readable = tt }

close_token : IsToken (Close Square) (93 ∷ [])
unfolding begun_by
close_token = record { first = 93; others = []; parts = refl; begun = refl; follow = refl; readable = tt }

text_token : (b : List ℕ) → IsText b → IsToken Quoted b
unfolding begun_by
text_token b t = record { first = 34; others = flat_map doubled t.content ++ 34 ∷ []; parts = t.is; begun = refl; follow = (t.content, refl); readable = tt }

spaces_blank : (n : ℕ) → AllPass is_blank (replicate n 32)
spaces_blank zero = All-nil _
spaces_blank (suc n) = All-cons (λ b. is_blank b ≡ true) 32 (replicate n 32) refl (spaces_blank n)

-- a layout puts only blanks before a keyword
pub before_blank : (layout : layouts.Layout) → AllPass is_blank (before layout)
before_blank OneLine = All-nil _
before_blank Root = All-nil _
before_blank (Inside depth) = All-cons (λ b. is_blank b ≡ true) 10 (replicate (4 * depth) 32) refl (spaces_blank (4 * depth))

front_join : (p : ℕ) (bytes : List ℕ) (ts : List Tok) (p' : ℕ) (bytes' : List ℕ) (us : List Tok) (p'' : ℕ) (bytes'' : List ℕ) → Front p bytes ts p' bytes' → Front p' bytes' us p'' bytes'' → Front p bytes (ts ++ us) p'' bytes''
front_join p bytes [] p' bytes' us p'' bytes'' f g = subst (λ q. Front q bytes us p'' bytes'') (sym f.0) (subst (λ b. Front p' b us p'' bytes'') (sym f.1) g)
front_join p bytes (t ∷ ts) p' bytes' us p'' bytes'' f g = (f.0, f.1, front_join (end_of t) f.0 ts p' bytes' us p'' bytes'' f.2 g)

behind_stops : (layout : layouts.Layout) (r : Bares) (rest : List ℕ) → StopsAll rest → StopsAll (laid_behind layout r ++ rest)
unfolding laid_behind
behind_stops layout none rest s = s
behind_stops layout (and i r) rest s = record { of_word = refl; of_number = refl; of_text = refl }

closing_stops : (rest : List ℕ) → StopsAll (93 ∷ rest)
closing_stops rest = record { of_word = refl; of_number = refl; of_text = refl }

-- ---- trees

-- an item that is t without its places, and whose tokens are those of the text of t
pub record Placed (layout : layouts.Layout) (n place : ℕ) (t : Bare) (rest : List ℕ) : Type 0 where
  pub item : Item
  pub end : ℕ
  pub is : bare item ≡ t
  pub within : Within n item
  pub front : Front place (laid layout t ++ rest) (tokens item) end rest

-- the arguments r as items after any first item, and their tokens, which are those of the text of r
pub record Behind (layout : layouts.Layout) (n place : ℕ) (r : Bares) (rest : List ℕ) : Type 0 where
  pub items : Item → Items
  pub added : List Tok
  pub end : ℕ
  pub is : (i : Item) → all_bare (items i) ≡ and (bare i) r
  pub within : (i : Item) → Within n i → AllWithin n (items i)
  pub tokens_are : (i : Item) → all_tokens (items i) ≡ tokens i ++ added
  pub front : Front place (laid_behind layout r ++ rest) added end rest

none_behind : (layout : layouts.Layout) (n place : ℕ) (rest : List ℕ) → Behind layout n place none rest
unfolding laid_behind
none_behind layout n place rest = record {
  items = last;
  added = [];
  end = place;
  is = λ i. refl;
  within = λ i w. w;
  tokens_are = λ i. sym (append-nil (tokens i));
  front = (refl, refl);
}

one_behind : (layout : layouts.Layout) (n place : ℕ) (i : Bare) (r : Bares) (rest : List ℕ) → (head : Placed layout n (place + 1) i (laid_behind layout r ++ rest)) → Behind layout n head.end r rest → Behind layout n place (and i r) rest
unfolding laid_behind
one_behind layout n place i r rest head tail =
    let text = laid layout i ++ (laid_behind layout r ++ rest) in
    let comma = first_here Comma place (44 ∷ []) text comma_token tt in
    let added = tok Comma (piece place (44 ∷ [])) ∷ (tokens head.item ++ tail.added) in
    let regroup : (44 ∷ (laid layout i ++ laid_behind layout r)) ++ rest ≡ 44 ∷ text = simp append_assoc in
    record {
      items = λ j. more j (piece place (44 ∷ [])) (tail.items head.item);
      added = added;
      end = tail.end;
      is = λ j. ap (and (bare j)) (tail.is head.item ∙ ap (λ b. and b r) head.is);
      within = λ j w. (w, tail.within head.item head.within);
      tokens_are = λ j. ap (λ l. tokens j ++ tok Comma (piece place (44 ∷ [])) ∷ l) (tail.tokens_are head.item);
      front = subst (λ b. Front place b added tail.end rest) (sym regroup) (text, comma, front_join (place + 1) _ (tokens head.item) head.end _ tail.added tail.end rest head.front tail.front);
    }

-- a node is placed if its first argument is, and the arguments after it are
place_node : (layout : layouts.Layout) (n place : ℕ) (k : List ℕ) (i : Bare) (r : Bares) (rest : List ℕ) → IsToken Word k → (head : Placed (inner layout) n (place + length (before layout) + length k + 1) i (laid_behind (inner layout) r ++ 93 ∷ rest)) → Behind (inner layout) n head.end r (93 ∷ rest) → Placed layout (suc n) place (node k (and i r)) rest
unfolding laid laid_all
place_node layout n place k i r rest name_is head tail =
    let named = place + length (before layout) in
    let opened = named + length k in
    let inside = opened + 1 in
    let text = laid (inner layout) i ++ (laid_behind (inner layout) r ++ 93 ∷ rest) in
    let items = tail.items head.item in
    let close = first_here (Close Square) tail.end (93 ∷ []) rest close_token tt in
    let spelled : Front inside text (all_tokens items) tail.end (93 ∷ rest) =
    subst (λ ts. Front inside text ts tail.end (93 ∷ rest)) (sym (tail.tokens_are head.item))
    (front_join inside _ (tokens head.item) head.end (laid_behind (inner layout) r ++ 93 ∷ rest) tail.added tail.end (93 ∷ rest) head.front tail.front) in
    let all : Front inside text (all_tokens items ++ tok (Close Square) (piece tail.end (93 ∷ [])) ∷ []) (tail.end + 1) rest =
    front_join inside _ (all_tokens items) tail.end (93 ∷ rest) _ (tail.end + 1) rest spelled (rest, close, (refl, refl)) in
    let bracket = first_here (Open Square) opened (91 ∷ []) text open_token tt in
    let name = first_behind Word place (before layout) k (91 ∷ text) (before_blank layout) name_is refl in
    let whole = tree.node (piece named k) Square (piece opened (91 ∷ [])) items (piece tail.end (93 ∷ [])) in
    let regroup : (before layout ++ (k ++ (91 ∷ ((laid (inner layout) i ++ laid_behind (inner layout) r) ++ (93 ∷ []))))) ++ rest ≡ before layout ++ (k ++ (91 ∷ text)) = simp append_assoc in
    record {
      item = whole;
      end = tail.end + 1;
      is = ap (node k) (tail.is head.item ∙ ap (λ b. and b r) head.is);
      within = tail.within head.item head.within;
      front = subst (λ b. Front place b (tokens whole) (tail.end + 1) rest) (sym regroup) (91 ∷ text, name, (text, bracket, all));
    }

mutual
  unfolding laid laid_all laid_behind

  pub place_item : (t : Bare) (layout : layouts.Layout) (n place : ℕ) (rest : List ℕ) → WellFormed n t → StopsAll rest → Placed layout n place t rest
  place_item (text b) layout n place rest g s = record { item = tree.text (piece place b); end = place + length b; is = refl; within = tt; front = (rest, first_here Quoted place b rest (text_token b g) s.of_text, (refl, refl)) }
  place_item (number b) layout n place rest g s = record { item = tree.number (piece place b); end = place + length b; is = refl; within = tt; front = (rest, first_here Number place b rest g s.of_number, (refl, refl)) }
  place_item (word b) layout n place rest g s = record { item = tree.word (piece place b); end = place + length b; is = refl; within = tt; front = (rest, first_here Word place b rest g s.of_word, (refl, refl)) }
  place_item (node k xs) layout zero place rest g s = absurd g
  place_item (node k none) layout (suc n) place rest g s = absurd g.1
  place_item (node k (and i r)) layout (suc n) place rest g s =
      let head = place_item i (inner layout) n (place + length (before layout) + length k + 1) (laid_behind (inner layout) r ++ 93 ∷ rest) g.1.0 (behind_stops (inner layout) r (93 ∷ rest) (closing_stops rest)) in
      place_node layout n place k i r rest g.0 head (place_behind r (inner layout) n head.end (93 ∷ rest) g.1.1 (closing_stops rest))

  pub place_behind : (r : Bares) (layout : layouts.Layout) (n place : ℕ) (rest : List ℕ) → AllWellFormed n r → StopsAll rest → Behind layout n place r rest
  place_behind none layout n place rest g s = none_behind layout n place rest
  place_behind (and i r) layout n place rest g s =
      let head = place_item i layout n (place + 1) (laid_behind layout r ++ rest) g.0 (behind_stops layout r rest s) in
      one_behind layout n place i r rest head (place_behind r layout n head.end rest g.1 s)
