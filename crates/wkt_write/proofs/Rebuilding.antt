-- If tokens are the same as those of a tree, they are the tokens of a tree that is alike.
use Rattle.std.proofs.Common.{◌≡◌, ℕ, zero, suc, ◌≤◌, List, [], ◌∷◌, ◌++◌, length, refl, sym, ap, ◌∙◌, subst, append_assoc, append-nil}
use Rattle.wkt_tree.specs.declared.token.Delimiter.{Delimiter}
use Rattle.wkt_tree.specs.declared.token.TokenKind.{TokenKind}
use Rattle.wkt_tree.specs.declared.token.TokenKind.TheVariants.{Word, Quoted, Number, Comma, Open, Close}
use Rattle.wkt_tree.specs.Tree.{Piece, Tok, tok, Item, Items, text, number, word, node, last, more, tokens, all_tokens, Within, AllWithin, IsTree}
use Rattle.wkt_tree.specs.Tokens.{Cut}
use Rattle.wkt_tree.proofs.OneTree.{one_tree}
use Rattle.wkt_grammar.specs.Bare.{Bares, bare, all_bare}
use Rattle.wkt_grammar.specs.Bare as grammar
use Rattle.wkt_write.specs.Condensed.{delimiter, IsCondensed}
use Rattle.wkt_write.specs.CondensedLaw.{IsWrittenAs, IsReadAs}
use Rattle.wkt_write.proofs.Moving.{parts_moves}
use Rattle.wkt_write.proofs.Cutting.{SameBytes, SameTokens, cut_alike}
use Rattle.wkt_write.specs.Alike.{Alike, AllAlike}

-- the first of the tokens is the same as this one, and the others are the same as the rest
record One (k : TokenKind) (p : Piece) (rest us : List Tok) : Type 0 where
  pub piece : Piece
  pub others : List Tok
  pub whole : us ≡ tok k piece ∷ others
  pub bytes : SameBytes k piece.bytes p.bytes
  pub behind : SameTokens others rest

one : (k : TokenKind) (p : Piece) (rest us : List Tok) → SameTokens us (tok k p ∷ rest) → One k p rest us
one k p rest [] h = absurd h
one k p rest (u ∷ us) h = record { piece = u.piece; others = us; whole = ap (λ kind. tok kind u.piece ∷ us) h.0; bytes = h.1; behind = h.2 }

-- the tokens begin with those of an item that is alike, and the others are the same as the rest
pub record Rebuilt (i : Item) (rest us : List Tok) : Type 0 where
  pub item : Item
  pub others : List Tok
  pub whole : us ≡ tokens item ++ others
  pub behind : SameTokens others rest
  pub same : Alike (bare i) (bare item)
  pub within : (n : ℕ) → Within n i → Within n item

pub record AllRebuilt (is : Items) (rest us : List Tok) : Type 0 where
  pub items : Items
  pub others : List Tok
  pub whole : us ≡ all_tokens items ++ others
  pub behind : SameTokens others rest
  pub same : AllAlike (all_bare is) (all_bare items)
  pub within : (n : ℕ) → AllWithin n is → AllWithin n items

node_within : (n : ℕ) (k k' : Piece) (d : Delimiter) (o o' : Piece) (is is' : Items) (c c' : Piece) → ((m : ℕ) → AllWithin m is → AllWithin m is') → Within n (node k d o is c) → Within n (node k' d o' is' c')
node_within zero k k' d o o' is is' c c' f w = w
node_within (suc n) k k' d o o' is is' c c' f w = f n w

mutual
  rebuild : (i : Item) (rest us : List Tok) → SameTokens us (tokens i ++ rest) → Rebuilt i rest us
  rebuild (text p) rest us h =
      let a = one Quoted p rest us h in
      record { item = text a.piece; others = a.others; whole = a.whole; behind = a.behind; same = ap grammar.text a.bytes; within = λ n w. w }
  rebuild (number p) rest us h =
      let a = one Number p rest us h in
      record { item = number a.piece; others = a.others; whole = a.whole; behind = a.behind; same = (a.piece.bytes, refl, a.bytes); within = λ n w. w }
  rebuild (word p) rest us h =
      let a = one Word p rest us h in
      record { item = word a.piece; others = a.others; whole = a.whole; behind = a.behind; same = ap grammar.word a.bytes; within = λ n w. w }
  rebuild (node k d o is c) rest us h =
      let a = one Word k (tok (Open d) o ∷ ((all_tokens is ++ tok (Close d) c ∷ []) ++ rest)) us h in
      let b = one (Open d) o ((all_tokens is ++ tok (Close d) c ∷ []) ++ rest) a.others a.behind in
      let s = rebuild_all is (tok (Close d) c ∷ rest) b.others (subst (λ (l : List Tok). SameTokens b.others l) (append_assoc (all_tokens is) (tok (Close d) c ∷ []) rest) b.behind) in
      let e = one (Close d) c rest s.others s.behind in
      record {
        item = node a.piece d b.piece s.items e.piece;
        others = e.others;
        whole = a.whole
            ∙ (ap (λ (l : List Tok). tok Word a.piece ∷ l) b.whole
            ∙ (ap (λ (l : List Tok). tok Word a.piece ∷ tok (Open d) b.piece ∷ l) s.whole
            ∙ (ap (λ (l : List Tok). tok Word a.piece ∷ tok (Open d) b.piece ∷ (all_tokens s.items ++ l)) e.whole
            ∙ ap (λ (l : List Tok). tok Word a.piece ∷ tok (Open d) b.piece ∷ l) (sym (append_assoc (all_tokens s.items) (tok (Close d) e.piece ∷ []) e.others)))));
        behind = e.behind;
        same = (all_bare s.items, ap (λ (x : List ℕ). grammar.node x (all_bare s.items)) a.bytes, s.same);
        within = λ n w. node_within n k a.piece d o b.piece is s.items c e.piece s.within w;
      }

  rebuild_all : (is : Items) (rest us : List Tok) → SameTokens us (all_tokens is ++ rest) → AllRebuilt is rest us
  rebuild_all (last i) rest us h =
      let a = rebuild i rest us h in
      record { items = last a.item; others = a.others; whole = a.whole; behind = a.behind; same = (bare a.item, grammar.none, refl, a.same, refl); within = a.within }
  rebuild_all (more i c is) rest us h =
      let a = rebuild i (tok Comma c ∷ (all_tokens is ++ rest)) us (subst (λ (l : List Tok). SameTokens us l) (append_assoc (tokens i) (tok Comma c ∷ all_tokens is) rest) h) in
      let b = one Comma c (all_tokens is ++ rest) a.others a.behind in
      let s = rebuild_all is rest b.others b.behind in
      record {
        items = more a.item b.piece s.items;
        others = s.others;
        whole = a.whole
            ∙ (ap (λ (l : List Tok). tokens a.item ++ l) b.whole
            ∙ (ap (λ (l : List Tok). tokens a.item ++ (tok Comma b.piece ∷ l)) s.whole
            ∙ sym (append_assoc (tokens a.item) (tok Comma b.piece ∷ all_tokens s.items) s.others)));
        behind = s.behind;
        same = (bare a.item, all_bare s.items, refl, a.same, s.same);
        within = λ n w. (a.within n w.0, s.within n w.1);
      }

with_root : (n : ℕ) (j : Item) (k : List ℕ) (xs : Bares) → bare j ≡ grammar.node k xs → Within n j → IsTree n (tokens j)
with_root n (text p) k xs e w = absurd (cc)
with_root n (number p) k xs e w = absurd (cc)
with_root n (word p) k xs e w = absurd (cc)
with_root n (node q d o is c) k xs e w = record { keyword = q; delimiter = d; opening = o; items = is; closing = c; within = w; spelled = refl }

tree_again : (n : ℕ) (i j : Item) → IsTree n (tokens i) → Alike (bare i) (bare j) → ((m : ℕ) → Within m i → Within m j) → IsTree n (tokens j)
tree_again n i j t e f =
    let is : i ≡ node t.keyword t.delimiter t.opening t.items t.closing = one_tree i (node t.keyword t.delimiter t.opening t.items t.closing) t.spelled in
    let g : Alike (grammar.node t.keyword.bytes (all_bare t.items)) (bare j) = subst (λ x. Alike (bare x) (bare j)) is e in
    with_root n j t.keyword.bytes g.0 g.1 (f n (subst (λ x. Within n x) (sym is) t.within))

no_others : (us : List Tok) → SameTokens us [] → us ≡ []
no_others [] h = refl
no_others (u ∷ us) h = absurd h

-- if a condensed text has the tokens of a tree, the text has the tokens of a tree that is alike
pub written_as : (bytes condensed : List ℕ) → length bytes ≤ 1048576 → IsCondensed bytes condensed → IsWrittenAs bytes condensed
written_as bytes condensed short h i o =
    let a = cut_alike (tokens i) delimiter 0 0 bytes condensed tt h o.cut in
    let r = rebuild i [] a.tokens (subst (λ (l : List Tok). SameTokens a.tokens l) (sym (append-nil (tokens i))) a.same) in
    let is : a.tokens ≡ tokens r.item = r.whole ∙ (ap (λ (l : List Tok). tokens r.item ++ l) (no_others r.others r.behind) ∙ append-nil (tokens r.item)) in
    record {
      item = r.item;
      outline = record { short = short; utf8 = a.utf8 o.utf8; cut = subst (λ (l : List Tok). Cut 0 bytes l) is a.cut; tree = tree_again 16 i r.item o.tree r.same r.within };
      same = r.same;
    }

-- the text spells each value that the condensed text spells
pub read_as : (bytes condensed : List ℕ) → length bytes ≤ 1048576 → IsCondensed bytes condensed → IsReadAs bytes condensed
read_as bytes condensed short h v d =
    let t = written_as bytes condensed short h d.item d.outline in
    record { item = t.item; outline = t.outline; denotes = parts_moves (bare d.item) (bare t.item) v t.same d.denotes }
