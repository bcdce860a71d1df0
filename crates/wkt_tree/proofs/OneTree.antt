-- A list of tokens is that of at most one tree.
use Rattle.std.proofs.Common.{◌≡◌, List, [], ◌∷◌, ◌++◌, sym, ap, ◌∙◌, append_assoc, append-nil}
use Rattle.wkt_tree.specs.declared.token.Delimiter.{Delimiter}
use Rattle.wkt_tree.specs.declared.token.TokenKind.TheVariants.{Word, Quoted, Number, Comma, Open, Close}
use Rattle.wkt_tree.specs.Tree.{Piece, Tok, tok, Item, Items, text, number, word, node, last, more, tokens, all_tokens}

-- the tokens do not begin with an opening delimiter
abbrev Shut : List Tok → Type 0
Shut [] = Unit {0}
Shut (t ∷ ts) = (d : Delimiter) → t.kind ≡ Open d → ⊥

heads : (t u : Tok) (r s : List Tok) → t ∷ r ≡ u ∷ s → (t ≡ u) × (r ≡ s)
heads t u r s e = ((cc), cc)

other_kind : {P : Type 0} (t u : Tok) (r s : List Tok) → t ∷ r ≡ u ∷ s → (t.kind ≡ u.kind → ⊥) → P
other_kind t u r s e n = absurd (n (ap (λ (x : Tok). x.kind) (heads t u r s e).0))

piece_is : (t u : Tok) (r s : List Tok) → t ∷ r ≡ u ∷ s → t.piece ≡ u.piece
piece_is t u r s e = ap (λ (x : Tok). x.piece) (heads t u r s e).0

opened_is : (d e : Delimiter) → Open d ≡ Open e → d ≡ e
opened_is d e h = cc

word_or_node : {P : Type 0} (r : List Tok) (d : Delimiter) (o : Piece) (s : List Tok) → Shut r → r ≡ tok (Open d) o ∷ s → P
word_or_node [] d o s h e = absurd cc
word_or_node (t ∷ r) d o s h e = absurd (h d (ap (λ (x : Tok). x.kind) (heads t (tok (Open d) o) r s e).0))

mutual
  item_once : (i j : Item) (r s : List Tok) → Shut r → Shut s → tokens i ++ r ≡ tokens j ++ s → (i ≡ j) × (r ≡ s)
  item_once (text p) (text q) r s u v e = (ap text (piece_is (tok Quoted p) (tok Quoted q) r s e), (heads (tok Quoted p) (tok Quoted q) r s e).1)
  item_once (text p) (number q) r s u v e = other_kind (tok Quoted p) (tok Number q) r s e (λ k. cc)
  item_once (text p) (word q) r s u v e = other_kind (tok Quoted p) (tok Word q) r s e (λ k. cc)
  item_once (text p) (node k d o items c) r s u v e = other_kind (tok Quoted p) (tok Word k) r _ e (λ k. cc)
  item_once (number p) (text q) r s u v e = other_kind (tok Number p) (tok Quoted q) r s e (λ k. cc)
  item_once (number p) (number q) r s u v e = (ap number (piece_is (tok Number p) (tok Number q) r s e), (heads (tok Number p) (tok Number q) r s e).1)
  item_once (number p) (word q) r s u v e = other_kind (tok Number p) (tok Word q) r s e (λ k. cc)
  item_once (number p) (node k d o items c) r s u v e = other_kind (tok Number p) (tok Word k) r _ e (λ k. cc)
  item_once (word p) (text q) r s u v e = other_kind (tok Word p) (tok Quoted q) r s e (λ k. cc)
  item_once (word p) (number q) r s u v e = other_kind (tok Word p) (tok Number q) r s e (λ k. cc)
  item_once (word p) (word q) r s u v e = (ap word (piece_is (tok Word p) (tok Word q) r s e), (heads (tok Word p) (tok Word q) r s e).1)
  item_once (word p) (node k d o items c) r s u v e = word_or_node r d o _ u (heads (tok Word p) (tok Word k) r _ e).1
  item_once (node k d o items c) (text q) r s u v e = other_kind (tok Word k) (tok Quoted q) _ s e (λ k. cc)
  item_once (node k d o items c) (number q) r s u v e = other_kind (tok Word k) (tok Number q) _ s e (λ k. cc)
  item_once (node k d o items c) (word q) r s u v e = word_or_node s d o _ v (sym (heads (tok Word k) (tok Word q) _ s e).1)
  item_once (node k d o items c) (node k' d' o' items' c') r s u v e =
      let one = heads (tok Word k) (tok Word k') _ _ e in
      let two = heads (tok (Open d) o) (tok (Open d') o') _ _ one.1 in
      let keyword : k ≡ k' = ap (λ (x : Tok). x.piece) one.0 in
      let delimiter : d ≡ d' = opened_is d d' (ap (λ (x : Tok). x.kind) two.0) in
      let opening : o ≡ o' = ap (λ (x : Tok). x.piece) two.0 in
      let rest = sym (append_assoc (all_tokens items) (tok (Close d) c ∷ []) r) ∙ (two.1 ∙ append_assoc (all_tokens items') (tok (Close d') c' ∷ []) s) in
      let inner = items_once items items' d d' c c' r s rest in
      let three = heads (tok (Close d) c) (tok (Close d') c') r s inner.1 in
      let closing : c ≡ c' = ap (λ (x : Tok). x.piece) three.0 in
      (λ z. node (keyword z) (delimiter z) (opening z) (inner.0 z) (closing z), three.1)

  items_once : (a b : Items) (d e : Delimiter) (c f : Piece) (r s : List Tok) → all_tokens a ++ (tok (Close d) c ∷ r) ≡ all_tokens b ++ (tok (Close e) f ∷ s) → (a ≡ b) × (tok (Close d) c ∷ r ≡ tok (Close e) f ∷ s)
  items_once (last i) (last j) d e c f r s h =
      let one = item_once i j (tok (Close d) c ∷ r) (tok (Close e) f ∷ s) (λ x k. cc) (λ x k. cc) h in (ap last one.0, one.1)
  items_once (last i) (more j k b) d e c f r s h =
      let one = item_once i j (tok (Close d) c ∷ r) (tok Comma k ∷ (all_tokens b ++ (tok (Close e) f ∷ s))) (λ x k. cc) (λ x k. cc) (h ∙ append_assoc (tokens j) (tok Comma k ∷ all_tokens b) (tok (Close e) f ∷ s)) in
      other_kind (tok (Close d) c) (tok Comma k) r _ one.1 (λ k. cc)
  items_once (more i k a) (last j) d e c f r s h =
      let one = item_once i j (tok Comma k ∷ (all_tokens a ++ (tok (Close d) c ∷ r))) (tok (Close e) f ∷ s) (λ x k. cc) (λ x k. cc) (sym (append_assoc (tokens i) (tok Comma k ∷ all_tokens a) (tok (Close d) c ∷ r)) ∙ h) in
      other_kind (tok Comma k) (tok (Close e) f) _ s one.1 (λ k. cc)
  items_once (more i k a) (more j l b) d e c f r s h =
      let whole = sym (append_assoc (tokens i) (tok Comma k ∷ all_tokens a) (tok (Close d) c ∷ r)) ∙ (h ∙ append_assoc (tokens j) (tok Comma l ∷ all_tokens b) (tok (Close e) f ∷ s)) in
      let one = item_once i j (tok Comma k ∷ (all_tokens a ++ (tok (Close d) c ∷ r))) (tok Comma l ∷ (all_tokens b ++ (tok (Close e) f ∷ s))) (λ x k. cc) (λ x k. cc) whole in
      let two = heads (tok Comma k) (tok Comma l) _ _ one.1 in
      let inner = items_once a b d e c f r s two.1 in
      let comma : k ≡ l = ap (λ (x : Tok). x.piece) two.0 in
      (λ z. more (one.0 z) (comma z) (inner.0 z), inner.1)

pub one_tree : (i j : Item) → tokens i ≡ tokens j → i ≡ j
one_tree i j e = (item_once i j [] [] tt tt (append-nil (tokens i) ∙ (e ∙ sym (append-nil (tokens j))))).0
