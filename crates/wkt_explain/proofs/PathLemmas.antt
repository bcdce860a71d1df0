-- The state after the bytes of tokens are read.
use Rattle.std.proofs.Common.{◌≡◌, ℕ, suc, ◌-◌, ◌<◌, ◌==◌, ◌||◌, Bool, true, false, cond, Some, List, [], ◌∷◌, ◌++◌, length, refl, ap, sym, ◌∙◌, subst, arith, append_assoc, ◌⊎◌, inl, inr, filter, append-nil}
use Rattle.std.specs.List.{AllPass, flat_map}
use Rattle.std.specs.Char.{is_ascii_alphabetic}
use Rattle.std.proofs.lemmas.Bool.Decides.{nat_tests}
use Rattle.std.proofs.lemmas.List.Elements.{All-nil, All-cons, All-append, All-take}
use Rattle.wkt_tree.specs.declared.token.Delimiter.TheVariants.{Square, Round}
use Rattle.wkt_tree.specs.declared.token.TokenKind.{TokenKind}
use Rattle.wkt_tree.specs.declared.token.TokenKind.TheVariants.{Word, Quoted, Number, Comma, Open, Close}
use Rattle.wkt_tree.specs.Bytes.{is_blank, is_word_byte, is_number_byte, begins_number, begun_by}
use Rattle.wkt_tree.specs.Tree.{Tok, tok, Item, Items, node, tokens, all_tokens, Begins}
use Rattle.wkt_tree.specs.Tree as tree
use Rattle.wkt_tree.specs.Tokens.{doubled, Follow, Front, Cut, end_of}
use Rattle.wkt_tree.proofs.Lexemes.{by_mark}
use Rattle.wkt_tree.proofs.Sound.{word_begins, number_begins, quoted_begins, comma_begins, open_begins, close_begins}
use Rattle.wkt_explain.specs.declared.path.ByteKind.TheVariants.{Mark, Opens, Closes, InWord, Blank, Other}
use Rattle.wkt_explain.specs.Path.{Read, start as fresh, piece_of, outside, takes, reads_on, is_named, path_at}
use Rattle.wkt_explain.specs.Opened.{behind, opened_by, opened_by_all}

-- the state outside quotation marks, and the state inside them
abbrev pub out : Bool → List ℕ → List (List ℕ) → Read
out w v o = record { quoted = false; whole = w; word = v; opened = o }

abbrev within : List (List ℕ) → Read
within o = record { quoted = true; whole = true; word = []; opened = o }

-- ---- bytes

blank_piece : (b : ℕ) → is_blank b ≡ true → piece_of b ≡ Blank
blank_piece b h = grind (arith, nat_tests)

word_piece : (b : ℕ) → is_word_byte b ≡ true → piece_of b ≡ InWord
word_piece b h = ap (λ t. cond t InWord (cond (is_blank b) Blank (cond (b == 34) Mark (cond (b == 91 || b == 40) Opens (cond (b == 93 || b == 41) Closes Other))))) h

number_piece : (b : ℕ) → is_number_byte b ≡ true → (piece_of b ≡ InWord) ⊎ (piece_of b ≡ Other)
number_piece b h = grind (arith, nat_tests)

head : {X : Type 0} (p : X → Bool) (b : X) (bs : List X) → AllPass p (b ∷ bs) → p b ≡ true
head p b bs h = h 0 b (omega arith)

tail : {X : Type 0} (p : X → Bool) (b : X) (bs : List X) → AllPass p (b ∷ bs) → AllPass p bs
tail p b bs h = λ k d l. h (suc k) d (omega arith)

-- ---- runs of bytes

pub blanks_pass : (bs more : List ℕ) (w : Bool) (v : List ℕ) (o : List (List ℕ)) → AllPass is_blank bs
    → (w' : Bool) × (w ≡ true → w' ≡ true) × (reads_on (out w v o) (bs ++ more) ≡ reads_on (out w' v o) more)
blanks_pass [] more w v o h = (w, λ e. e, refl)
blanks_pass (b ∷ bs) more w v o h =
    let r = blanks_pass bs more true v o (tail is_blank b bs h) in
    (r.0, λ e. r.1 refl, ap (λ p. reads_on (outside p b (out w v o)) (bs ++ more)) (blank_piece b (head is_blank b bs h)) ∙ r.2)

word_goes_on : (bs more v : List ℕ) (o : List (List ℕ)) → AllPass is_word_byte bs → reads_on (out false v o) (bs ++ more) ≡ reads_on (out false (v ++ bs) o) more
word_goes_on [] more v o h = ap (λ x. reads_on (out false x o) more) (sym (append-nil v))
word_goes_on (b ∷ bs) more v o h =
    ap (λ p. reads_on (outside p b (out false v o)) (bs ++ more)) (word_piece b (head is_word_byte b bs h))
    ∙ word_goes_on bs more (v ++ b ∷ []) o (tail is_word_byte b bs h)
    ∙ ap (λ x. reads_on (out false x o) more) (append_assoc v (b ∷ []) bs)

pub word_passes : (b : ℕ) (bs more v : List ℕ) (o : List (List ℕ)) → is_word_byte b ≡ true → AllPass is_word_byte bs
    → reads_on (out true v o) ((b ∷ bs) ++ more) ≡ reads_on (out false (b ∷ bs) o) more
word_passes b bs more v o e h = ap (λ p. reads_on (outside p b (out true v o)) (bs ++ more)) (word_piece b e) ∙ word_goes_on bs more (b ∷ []) o h

pub number_passes : (bs more : List ℕ) (w : Bool) (v : List ℕ) (o : List (List ℕ)) → AllPass is_number_byte bs
    → (w' : Bool) × (v' : List ℕ) × (reads_on (out w v o) (bs ++ more) ≡ reads_on (out w' v' o) more)
number_passes [] more w v o h = (w, v, refl)
number_passes (b ∷ bs) more w v o h = elim (number_piece b (head is_number_byte b bs h)) [
  | inl e ↦ let r = number_passes bs more false ((cond w [] v) ++ b ∷ []) o (tail is_number_byte b bs h) in
      (r.0, r.1, ap (λ p. reads_on (outside p b (out w v o)) (bs ++ more)) e ∙ r.2)
  | inr e ↦ let r = number_passes bs more true [] o (tail is_number_byte b bs h) in
      (r.0, r.1, ap (λ p. reads_on (outside p b (out w v o)) (bs ++ more)) e ∙ r.2)
]

no_mark : (b : ℕ) (o : List (List ℕ)) → (b ≡ 34 → ⊥) → takes (within o) b ≡ within o
no_mark b o h = let e : (b == 34) ≡ false = grind (arith, nat_tests) in ap (λ t. cond t (out true [] o) (within o)) e

content_passes : (content more : List ℕ) (o : List (List ℕ)) → reads_on (within o) (flat_map doubled content ++ more) ≡ reads_on (within o) more
content_passes [] more o = refl
content_passes (b ∷ bs) more o =
    append_assoc_at (doubled b) (flat_map doubled bs) more
    ∙ elim (by_mark b) [
      | inl m ↦ ap (λ x. reads_on (within o) (x ++ (flat_map doubled bs ++ more))) m.1 ∙ content_passes bs more o
      | inr m ↦ ap (λ x. reads_on (within o) (x ++ (flat_map doubled bs ++ more))) m.1 ∙ ap (λ r. reads_on r (flat_map doubled bs ++ more)) (no_mark b o m.0) ∙ content_passes bs more o
    ]
  where
    append_assoc_at : (x y z : List ℕ) → reads_on (within o) ((x ++ y) ++ z) ≡ reads_on (within o) (x ++ (y ++ z))
    append_assoc_at x y z = ap (λ l. reads_on (within o) l) (append_assoc x y z)

pub quoted_passes : (content more : List ℕ) (w : Bool) (v : List ℕ) (o : List (List ℕ))
    → reads_on (out w v o) ((34 ∷ (flat_map doubled content ++ 34 ∷ [])) ++ more) ≡ reads_on (out true [] o) more
quoted_passes content more w v o =
    ap (λ l. reads_on (within o) l) (append_assoc (flat_map doubled content) (34 ∷ []) more) ∙ content_passes content (34 ∷ more) o

-- ---- a token

-- the last word that was read, after a token of this kind with these bytes, and whether that word is complete
abbrev IsAfter : TokenKind → Bool → List ℕ → List ℕ → Type 0
IsAfter Word w v word = (v ≡ word) × (0 < length word)
IsAfter Quoted w v word = Unit {0}
IsAfter Number w v word = Unit {0}
IsAfter Comma w v word = w ≡ true
IsAfter (Open d) w v word = w ≡ true
IsAfter (Close d) w v word = Unit {0}

abbrev IsReady : TokenKind → Bool → List ℕ → List ℕ → Type 0
IsReady Word w v word = w ≡ true
IsReady Quoted w v word = Unit {0}
IsReady Number w v word = Unit {0}
IsReady Comma w v word = Unit {0}
IsReady (Open d) w v word = (v ≡ word) × (0 < length word)
IsReady (Close d) w v word = Unit {0}

record Passed (k : TokenKind) (token rest : List ℕ) (w : Bool) (v : List ℕ) (o : List (List ℕ)) (word : List ℕ) : Type 0 where
  pub full : Bool
  pub last : List ℕ
  pub reads : reads_on (out w v o) (token ++ rest) ≡ reads_on (out full last (behind k o word)) rest
  pub after : IsAfter k full last token

alpha_word : (b : ℕ) → is_ascii_alphabetic b ≡ true → is_word_byte b ≡ true
alpha_word b h = grind (arith, nat_tests)

number_byte : (b : ℕ) → begins_number b ≡ true → is_number_byte b ≡ true
number_byte b h = grind (arith, nat_tests)

one_byte : (r : Read) (first : ℕ) (others rest : List ℕ) (b : ℕ) → first ≡ b → others ≡ [] → reads_on r ((first ∷ others) ++ rest) ≡ reads_on r (b ∷ rest)
one_byte r first others rest b e f = ap (λ x. reads_on r ((x ∷ others) ++ rest)) e ∙ ap (λ (l : List ℕ). reads_on r ((b ∷ l) ++ rest)) f

passes : (k : TokenKind) (first : ℕ) (others rest : List ℕ) (w : Bool) (v : List ℕ) (o : List (List ℕ)) (word : List ℕ)
    → begun_by first ≡ Some k → Follow k others → IsReady k w v word → Passed k (first ∷ others) rest w v o word
passes Word first others rest w v o word g f y = record {
  full = false;
  last = first ∷ others;
  reads = ap (λ x. reads_on (out x v o) ((first ∷ others) ++ rest)) y ∙ word_passes first others rest v o (alpha_word first (word_begins first g)) f;
  after = (refl, omega arith);
}
passes Quoted first others rest w v o word g f y = record {
  full = true;
  last = [];
  reads = ap (λ x. reads_on (out w v o) ((x ∷ others) ++ rest)) (quoted_begins first g)
      ∙ ap (λ (l : List ℕ). reads_on (out w v o) ((34 ∷ l) ++ rest)) f.1
      ∙ quoted_passes f.0 rest w v o;
  after = tt;
}
passes Number first others rest w v o word g f y =
    let r = number_passes (first ∷ others) rest w v o (All-cons (λ b. is_number_byte b ≡ true) first others (number_byte first (number_begins first g)) f) in
    record { full = r.0; last = r.1; reads = r.2; after = tt }
passes Comma first others rest w v o word g f y = record {
  full = true;
  last = [];
  reads = one_byte (out w v o) first others rest 44 (comma_begins first g) f;
  after = refl;
}
passes (Open Square) first others rest w v o word g f y = record {
  full = true;
  last = [];
  reads = one_byte (out w v o) first others rest 91 (open_begins Square first g) f ∙ ap (λ x. reads_on (out true [] (o ++ x ∷ [])) rest) y.0;
  after = refl;
}
passes (Open Round) first others rest w v o word g f y = record {
  full = true;
  last = [];
  reads = one_byte (out w v o) first others rest 40 (open_begins Round first g) f ∙ ap (λ x. reads_on (out true [] (o ++ x ∷ [])) rest) y.0;
  after = refl;
}
passes (Close Square) first others rest w v o word g f y = record {
  full = true;
  last = [];
  reads = one_byte (out w v o) first others rest 93 (close_begins Square first g) f;
  after = tt;
}
passes (Close Round) first others rest w v o word g f y = record {
  full = true;
  last = [];
  reads = one_byte (out w v o) first others rest 41 (close_begins Round first g) f;
  after = tt;
}

-- ---- tokens of a tree: a word is first, or after a comma or an opening delimiter; an opening delimiter is after a word

abbrev BeginsItem : TokenKind → Type 0
BeginsItem Word = ⊥
BeginsItem Quoted = ⊥
BeginsItem Number = ⊥
BeginsItem Comma = Unit {0}
BeginsItem (Open d) = Unit {0}
BeginsItem (Close d) = ⊥

abbrev BeginsNode : TokenKind → Type 0
BeginsNode Word = Unit {0}
BeginsNode Quoted = ⊥
BeginsNode Number = ⊥
BeginsNode Comma = ⊥
BeginsNode (Open d) = ⊥
BeginsNode (Close d) = ⊥

abbrev May : TokenKind → TokenKind → Type 0
May k Word = BeginsItem k
May k Quoted = Unit {0}
May k Number = Unit {0}
May k Comma = Unit {0}
May k (Open d) = BeginsNode k
May k (Close d) = Unit {0}

abbrev Linked : TokenKind → List Tok → Type 0
Linked k [] = Unit {0}
Linked k (t ∷ ts) = May k t.kind × Linked t.kind ts

abbrev mutual
  tree_linked : (i : Item) (k : TokenKind) (rest : List Tok) → BeginsItem k → ((j : TokenKind) → Linked j rest) → Linked k (tokens i ++ rest)
  tree_linked (tree.text p) k rest b h = (tt, h Quoted)
  tree_linked (tree.number p) k rest b h = (tt, h Number)
  tree_linked (tree.word p) k rest b h = (b, h Word)
  tree_linked (node q d o items c) k rest b h =
      (b, (tt, subst (λ l. Linked (Open d) l) (sym (append_assoc (all_tokens items) (tok (Close d) c ∷ []) rest)) (trees_linked items (Open d) (tok (Close d) c ∷ rest) tt (λ j. (tt, h (Close d))))))

  trees_linked : (items : Items) (k : TokenKind) (rest : List Tok) → BeginsItem k → ((j : TokenKind) → Linked j rest) → Linked k (all_tokens items ++ rest)
  trees_linked (tree.last i) k rest b h = tree_linked i k rest b h
  trees_linked (tree.more i c items) k rest b h =
      subst (λ l. Linked k l) (sym (append_assoc (tokens i) (tok Comma c ∷ all_tokens items) rest)) (tree_linked i k (tok Comma c ∷ (all_tokens items ++ rest)) b (λ j. (tt, trees_linked items Comma rest tt h)))

front_linked : (ts others : List Tok) (k : TokenKind) → Linked k (ts ++ others) → Linked k ts
front_linked [] others k h = tt
front_linked (t ∷ ts) others k h = (h.0, front_linked ts others t.kind h.1)

begun_linked : (n : ℕ) (ts : List Tok) → Begins n ts → Linked Comma ts
begun_linked n ts b =
    let t = b.tree in
    let i = node t.keyword t.delimiter t.opening t.items t.closing in
    front_linked ts b.others Comma (subst (λ l. Linked Comma l) (append-nil (tokens i) ∙ sym t.spelled) (tree_linked i Comma [] tt (λ j. tt)))

-- ---- lists of tokens

ready_at : (p k : TokenKind) (w : Bool) (v word : List ℕ) → May p k → IsAfter p w v word → IsReady k w v word
ready_at Word Word w v word m a = absurd m
ready_at Quoted Word w v word m a = absurd m
ready_at Number Word w v word m a = absurd m
ready_at Comma Word w v word m a = a
ready_at (Open d) Word w v word m a = a
ready_at (Close d) Word w v word m a = absurd m
ready_at p Quoted w v word m a = tt
ready_at p Number w v word m a = tt
ready_at p Comma w v word m a = tt
ready_at Word (Open e) w v word m a = a
ready_at Quoted (Open e) w v word m a = absurd m
ready_at Number (Open e) w v word m a = absurd m
ready_at Comma (Open e) w v word m a = absurd m
ready_at (Open d) (Open e) w v word m a = absurd m
ready_at (Close d) (Open e) w v word m a = absurd m
ready_at p (Close e) w v word m a = tt

blanks_keep : (p : TokenKind) (w w' : Bool) (v word : List ℕ) → (w ≡ true → w' ≡ true) → IsAfter p w v word → IsAfter p w' v word
blanks_keep Word w w' v word h a = a
blanks_keep Quoted w w' v word h a = a
blanks_keep Number w w' v word h a = a
blanks_keep Comma w w' v word h a = h a
blanks_keep (Open d) w w' v word h a = h a
blanks_keep (Close d) w w' v word h a = a

some_word : (word : List ℕ) → 0 < length word → is_named word ≡ true
some_word word h = grind (arith, nat_tests)

named_behind : (k : TokenKind) (w : Bool) (v : List ℕ) (o : List (List ℕ)) (word : List ℕ) → IsReady k w v word → AllPass is_named o → AllPass is_named (behind k o word)
named_behind Word w v o word y h = h
named_behind Quoted w v o word y h = h
named_behind Number w v o word y h = h
named_behind Comma w v o word y h = h
named_behind (Open d) w v o word y h =
    All-append (λ x. is_named x ≡ true) o (word ∷ []) h (All-cons (λ x. is_named x ≡ true) word [] (some_word word y.1) (All-nil (λ (x : List ℕ). is_named x ≡ true)))
named_behind (Close d) w v o word y h = All-take (λ x. is_named x ≡ true) (length o - 1) o h

record Run (ts : List Tok) (bytes rest : List ℕ) (w : Bool) (v : List ℕ) (o : List (List ℕ)) (word : List ℕ) : Type 0 where
  pub full : Bool
  pub last : List ℕ
  pub reads : reads_on (out w v o) bytes ≡ reads_on (out full last (opened_by o word ts)) rest
  pub named : AllPass is_named (opened_by o word ts)

runs : (ts : List Tok) (k : TokenKind) (place : ℕ) (bytes : List ℕ) (place' : ℕ) (rest : List ℕ) (w : Bool) (v : List ℕ) (o : List (List ℕ)) (word : List ℕ)
    → Front place bytes ts place' rest → Linked k ts → IsAfter k w v word → AllPass is_named o → Run ts bytes rest w v o word
runs [] k place bytes place' rest w v o word f h a y = record { full = w; last = v; reads = ap (λ l. reads_on (out w v o) l) f.1; named = y }
runs (t ∷ ts) k place bytes place' rest w v o word f h a y =
    let first = f.1 in
    let l = first.lexeme in
    let b = blanks_pass first.blank.blanks first.from w v o first.blank.all in
    let ready = ready_at k t.kind b.0 v word h.0 (blanks_keep k w b.0 v word b.1 a) in
    let p = subst (λ x. Passed t.kind x f.0 b.0 v o word) (sym l.parts) (passes t.kind l.first l.others f.0 b.0 v o word l.begun l.follow ready) in
    let r = runs ts t.kind (end_of t) f.0 place' rest p.full p.last (behind t.kind o word) t.piece.bytes f.2 h.1 p.after (named_behind t.kind b.0 v o word ready y) in
    record {
      full = r.full;
      last = r.last;
      reads = ap (λ x. reads_on (out w v o) x) first.blank.whole ∙ b.2 ∙ ap (λ x. reads_on (out b.0 v o) x) l.whole ∙ p.reads ∙ r.reads;
      named = r.named;
    }

filter_all : (xs : List (List ℕ)) → AllPass is_named xs → filter is_named xs ≡ xs
filter_all [] h = refl
filter_all (x ∷ xs) h =
    ap (λ t. cond t (x ∷ filter is_named xs) (filter is_named xs)) (head is_named x xs h) ∙ ap (λ ys. x ∷ ys) (filter_all xs (tail is_named x xs h))

pub path_is : (text : List ℕ) (ts : List Tok) (n : ℕ) → Cut 0 text ts → Begins n ts → path_at text ≡ opened_by_all ts
path_is text ts n cut begins =
    let r = runs ts Comma 0 text cut.place' cut.rest true [] [] [] cut.front (begun_linked n ts begins) refl (All-nil (λ (x : List ℕ). is_named x ≡ true)) in
    let b = blanks_pass cut.rest [] r.full r.last (opened_by_all ts) cut.blank in
    let e : reads_on fresh text ≡ out b.0 r.last (opened_by_all ts) = r.reads ∙ ap (λ x. reads_on (out r.full r.last (opened_by_all ts)) x) (sym (append-nil cut.rest)) ∙ b.2 in
    ap (λ q. filter is_named q.opened) e ∙ filter_all (opened_by_all ts) r.named
