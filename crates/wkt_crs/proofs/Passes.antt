-- Skipping items by their tokens, without a tree.
use Rattle.std.proofs.Common.{◌≡◌, ℕ, ◌≤◌, Bool, true, false, List, [], ◌∷◌, ◌++◌, length, drop, refl, sym, ap, ◌∙◌, subst, append_assoc, arith, inl, inr}
use Rattle.std.specs.Prelude.{◌⊎◌}
use Rattle.std.proofs.lemmas.List.{length-drop}
use Rattle.wkt_tree.specs.declared.token.Delimiter.{Delimiter}
use Rattle.wkt_tree.specs.declared.token.TokenKind.TheVariants.{Comma, Close}
use Rattle.wkt_tree.specs.Tree.{Piece, Tok, tok}
use Rattle.wkt_tree.specs.Tree.{Item, Items, text, number, word, node, last, more, tokens, all_tokens}
use Rattle.wkt_grammar.specs.Next.{is_open, is_comma, next_is, place_next}
use Rattle.wkt_grammar.specs.Slots.{begin}
use Rattle.wkt_crs.specs.Faults.{first_begin}
use Rattle.wkt_crs.specs.Passing.{is_word, PassesItem, PassesItems, PassesFirst, TellsPlace}
use Rattle.crs_value.specs.declared.broken.Whose.TheVariants.{First, Second}

-- ---- one item

leaf_goes : (old : List Tok) → ((next_is is_word old ≡ true) → next_is is_open (drop 1 old) ≡ false) → PassesItem old (drop 1 old)
leaf_goes old h (text p) rest e f = ap (drop 1) e
leaf_goes old h (number p) rest e f = ap (drop 1) e
leaf_goes old h (word p) rest e f = ap (drop 1) e
leaf_goes old h (node k d o items c) rest e f = let g = h (ap (next_is is_word) e) in let n = sym (ap (λ (l : List Tok). next_is is_open (drop 1 l)) e) ∙ g in absurd cc

node_goes : (old new : List Tok) → next_is is_word old ≡ true → next_is is_open (drop 1 old) ≡ true → PassesItems (drop 1 (drop 1 old)) new → PassesItem old new
node_goes old new w o h (text p) rest e f = let n = sym (ap (next_is is_word) e) ∙ w in absurd cc
node_goes old new w o h (number p) rest e f = let n = sym (ap (next_is is_word) e) ∙ w in absurd cc
node_goes old new w o h (word p) rest e f = let n = sym f ∙ (sym (ap (λ (l : List Tok). next_is is_open (drop 1 l)) e) ∙ o) in absurd cc
node_goes old new w o h (node k d b items c) rest e f = h items d c rest (ap (λ (l : List Tok). drop 1 (drop 1 l)) e ∙ append_assoc (all_tokens items) (tok (Close d) c ∷ []) rest)

-- ---- the items of a node

-- after an item, the node ends, or a comma and more items follow
abbrev pub Behind : List Tok → Delimiter → Piece → List Tok → Type 0
Behind cur d c rest = (cur ≡ tok (Close d) c ∷ rest) ⊎ ((k : Piece) × (left : Items) × (cur ≡ tok Comma k ∷ (all_tokens left ++ tok (Close d) c ∷ rest)))

-- if the tokens old are the items of a node and the rest, cur is the tokens after one of these items
abbrev pub GoesOn : List Tok → List Tok → Type 0
GoesOn old cur = (items : Items) (d : Delimiter) (c : Piece) (rest : List Tok) → old ≡ all_tokens items ++ tok (Close d) c ∷ rest → Behind cur d c rest

behind_item : (left : Items) (cur cur' : List Tok) (d : Delimiter) (c : Piece) (rest : List Tok) → PassesItem cur cur' → cur ≡ all_tokens left ++ tok (Close d) c ∷ rest → Behind cur' d c rest
behind_item (last i) cur cur' d c rest p e = inl (p i (tok (Close d) c ∷ rest) e refl)
behind_item (more i k left) cur cur' d c rest p e =
    inr (k, left, p i (tok Comma k ∷ (all_tokens left ++ tok (Close d) c ∷ rest)) (e ∙ append_assoc (tokens i) (tok Comma k ∷ all_tokens left) (tok (Close d) c ∷ rest)) refl)

pub goes_first : (old cur : List Tok) → PassesItem old cur → GoesOn old cur
goes_first old cur p items d c rest e = behind_item items old cur d c rest p e

pub goes_more : (old cur cur' : List Tok) → GoesOn old cur → next_is is_comma cur ≡ true → PassesItem (drop 1 cur) cur' → GoesOn old cur'
goes_more old cur cur' g n p items d c rest e =
    elim (g items d c rest e) [
      | inl end ↦ let m = sym (ap (next_is is_comma) end) ∙ n in absurd cc
      | inr next ↦ behind_item next.1 (drop 1 cur) cur' d c rest p (ap (drop 1) next.2)
    ]

-- ---- the same statements, for the lists of tokens that the code has

pub node_goes_at : (old one two new : List Tok) (a b : Bool) → a ≡ next_is is_word old → one ≡ drop 1 old → a ≡ true → b ≡ next_is is_open one → b ≡ true → two ≡ drop 1 one → PassesItems two new → PassesItem old new
node_goes_at old one two new a b ea e1 ta eb tb e2 h =
    node_goes old new (sym ea ∙ ta) (ap (next_is is_open) (sym e1) ∙ (sym eb ∙ tb)) (subst (λ l. PassesItems l new) (e2 ∙ ap (drop 1) e1) h)

pub leaf_goes_at : (old one : List Tok) → one ≡ drop 1 old → ((next_is is_word old ≡ true) → next_is is_open one ≡ false) → PassesItem old one
leaf_goes_at old one e h = subst (λ l. PassesItem old l) (sym e) (leaf_goes old (λ w. ap (next_is is_open) (sym e) ∙ h w))

pub shorter_more : (a b m : List Tok) (n : ℕ) → length a ≤ length b → b ≡ drop 1 m → length m ≤ n → length a ≤ n
shorter_more a b m n h e g = let k = ap length e ∙ length-drop 1 m in omega (arith, k)

-- ---- the places of arguments

starts : (i : Item) (rest : List Tok) → place_next (tokens i ++ rest) ≡ begin i
starts (text p) rest = refl
starts (number p) rest = refl
starts (word p) rest = refl
starts (node k d o items c) rest = refl

pub items_start : (items : Items) (rest : List Tok) → place_next (all_tokens items ++ rest) ≡ first_begin items
items_start (last i) rest = starts i rest
items_start (more i k left) rest = ap place_next (append_assoc (tokens i) (tok Comma k ∷ all_tokens left) rest) ∙ starts i (tok Comma k ∷ (all_tokens left ++ rest))

pub item_start : (i : Item) → place_next (tokens i) ≡ begin i
item_start (text p) = refl
item_start (number p) = refl
item_start (word p) = refl
item_start (node k d o items c) = refl

pub first_passed : (old new : List Tok) → PassesItem (drop 1 (drop 1 old)) new → PassesFirst old (drop 1 new)
first_passed old new p k d o i a items c e =
    ap (drop 1) (p i (tok Comma a ∷ (all_tokens items ++ tok (Close d) c ∷ [])) (ap (λ (l : List Tok). drop 1 (drop 1 l)) e ∙ append_assoc (tokens i) (tok Comma a ∷ all_tokens items) (tok (Close d) c ∷ [])) refl)

pub second_passed : (old new : List Tok) (items : Items) (i : Item) (k : Piece) (rest : List Tok) → PassesItem old new → old ≡ all_tokens (more i k items) ++ rest → drop 1 new ≡ all_tokens items ++ rest
second_passed old new items i k rest p e = ap (drop 1) (p i (tok Comma k ∷ (all_tokens items ++ rest)) (e ∙ append_assoc (tokens i) (tok Comma k ∷ all_tokens items) rest) refl)

pub first_placed : (toks old new : List Tok) (at : ℕ) → old ≡ toks → PassesFirst old new → at ≡ place_next new → TellsPlace toks First at
first_placed toks old new at e p h k d o i a j b items c f = h ∙ (ap place_next (p k d o i a (more j b items) c (e ∙ f)) ∙ items_start (more j b items) (tok (Close d) c ∷ []))

pub second_placed : (toks old one two new : List Tok) (at : ℕ) → old ≡ toks → PassesFirst old one → PassesItem one two → new ≡ drop 1 two → at ≡ place_next new → TellsPlace toks Second at
second_placed toks old one two new at e p q n h k d o i a j b items c f =
    h ∙ (ap place_next (n ∙ second_passed one two items j b (tok (Close d) c ∷ []) q (p k d o i a (more j b items) c (e ∙ f))) ∙ items_start items (tok (Close d) c ∷ []))
