-- The loop of the scanner follows the definitions.
use Rattle.std.proofs.Common.{◌≡◌, ℕ, ◌+◌, ◌-◌, ◌<◌, ◌≤◌, Bool, true, false, cond, ltb, List, [], ◌∷◌, ◌++◌, length, take, drop, Option, Some, None, refl, sym, ap, ◌∙◌, subst, append_assoc, arith}
use Rattle.std.specs.Prelude.{option_and_then, Result}
use Rattle.std.specs.List.{AllPass}
use Rattle.std.proofs.lemmas.List.{drop_at, drop-drop, length-append, length-drop, take_rest}
use Rattle.wkt_tree.specs.declared.token.Delimiter.{Delimiter}
use Rattle.wkt_tree.specs.declared.token.TokenKind.{TokenKind}
use Rattle.wkt_tree.specs.declared.token.TokenKind.TheVariants.{Word, Quoted, Number, Comma, Open, Close}
use Rattle.wkt_tree.specs.declared.token.Token.{Token}
use Rattle.wkt_tree.specs.declared.machine.Phase.{Phase}
use Rattle.wkt_tree.specs.declared.machine.Phase.TheVariants.{Begin, Named, Past}
use Rattle.wkt_tree.specs.declared.fault.TextFault.{TextFault}
use Rattle.wkt_tree.specs.declared.fault.TextFault.TheVariants.{TooLong, NotUtf8, BadByte, TextOpen, BadNumber, NumberRange, Unexpected, Depth, EndEarly, After}
use Rattle.wkt_tree.specs.Bytes.{is_blank}
use Rattle.wkt_tree.specs.Tree.{Piece, Tok, tok, IsTree, Begins}
use Rattle.wkt_tree.specs.Machine.{State, state, step_at, step, run, refusal}
use Rattle.wkt_tree.specs.Tokens.{Lexed, First, Front, Cut, end_of}
use Rattle.wkt_tree.specs.Faults.{Unreadable, Reads, Begun, Refused, TokenFault, BeginsDeeper}
use Rattle.wkt_tree.proofs.Cuts.{lexed}
use Rattle.wkt_tree.proofs.Trees.{start, tree_runs, begins_runs, runs_begins, runs_tree, run_push}

-- ---- where the next token begins

pub record Passed (place : ℕ) (text : List ℕ) (t : Tok) (rest : List ℕ) : Type 0 where
  pub rest_is : rest ≡ drop (end_of t) text
  pub further : place < end_of t
  pub within : end_of t ≤ length text

pub lexed_passes : (text : List ℕ) (place : ℕ) (t : Tok) (rest : List ℕ) → place ≤ length text → Lexed place (drop place text) t rest → Passed place text t rest
lexed_passes text place t rest w f =
    let b = f.blank.blanks in
    let k = t.piece.bytes in
    let whole : drop place text ≡ (b ++ k) ++ rest = f.blank.whole ∙ (ap (λ (l : List ℕ). b ++ l) f.lexeme.whole ∙ sym (append_assoc b k rest)) in
    let n : length (b ++ k) ≡ length b + length k = length-append b k in
    let size : length text - place ≡ length b + length k + length rest = sym (length-drop place text) ∙ (ap length whole ∙ (length-append (b ++ k) rest ∙ ap (λ x. x + length rest) n)) in
    let some : 0 < length k = subst (λ l. 0 < length l) (sym f.lexeme.parts) (omega arith) in
    let at : end_of t ≡ place + (length b + length k) = omega (arith, f.blank.moved) in
    record {
      rest_is = sym (drop_at (b ++ k) rest (length b + length k) n) ∙ (ap (drop (length b + length k)) (sym whole) ∙ (drop-drop (length b + length k) place text ∙ ap (λ x. drop x text) (sym at)));
      further = omega arith;
      within = omega arith;
    }

pub first_passes : (text : List ℕ) (place : ℕ) (t : Tok) (rest : List ℕ) → place ≤ length text → First place (drop place text) t rest → Passed place text t rest
first_passes text place t rest w f = lexed_passes text place t rest w (lexed f)

pub front_push : (ts : List Tok) (place : ℕ) (bytes : List ℕ) (place' : ℕ) (bytes' : List ℕ) (t : Tok) (rest : List ℕ) → Front place bytes ts place' bytes' → First place' bytes' t rest → Front place bytes (ts ++ t ∷ []) (end_of t) rest
front_push [] place bytes place' bytes' t rest f g = (rest, subst (λ b. First place b t rest) (sym f.1) (subst (λ p. First p bytes' t rest) (sym f.0) g), (refl, refl))
front_push (u ∷ ts) place bytes place' bytes' t rest f g = (f.0, f.1, front_push ts (end_of u) f.0 place' bytes' t rest f.2 g)

-- ---- the loop

pub record Scanned (text : List ℕ) (place : ℕ) (phase : Phase) (s : List Delimiter) : Type 0 where
  pub tokens : List Tok
  pub front : Front 0 text tokens place (drop place text)
  pub within : place ≤ length text
  pub runs : run 16 start tokens ≡ Some (state phase s)

pub scanned_more : (text : List ℕ) (place : ℕ) (phase : Phase) (s : List Delimiter) (t : Tok) (rest : List ℕ) (phase' : Phase) (s' : List Delimiter)
    → Scanned text place phase s → First place (drop place text) t rest → step_at 16 phase s t.kind ≡ Some (state phase' s') → Scanned text (end_of t) phase' s'
scanned_more text place phase s t rest phase' s' h f e =
    let p = first_passes text place t rest h.within f in
    record {
      tokens = h.tokens ++ t ∷ [];
      front = subst (λ l. Front 0 text (h.tokens ++ t ∷ []) (end_of t) l) p.rest_is (front_push h.tokens 0 text place (drop place text) t rest h.front f);
      within = p.within;
      runs = run_push 16 h.tokens t (state phase s) h.runs ∙ e;
    }

abbrev begun : (text : List ℕ) (place : ℕ) (phase : Phase) (s : List Delimiter) → Scanned text place phase s → Begun text
begun text place phase s h =
    record { tokens = h.tokens; place = place; rest = drop place text; front = h.front; begins = runs_begins 16 h.tokens (state phase s) (omega arith) h.runs }

pub scanned_unreadable : (text : List ℕ) (place : ℕ) (phase : Phase) (s : List Delimiter) (fault : TextFault) → Scanned text place phase s → Unreadable place (drop place text) fault → TokenFault text fault
scanned_unreadable text place phase s (BadByte at) h u = (begun text place phase s h, u)
scanned_unreadable text place phase s (TextOpen at) h u = (begun text place phase s h, u)
scanned_unreadable text place phase s (BadNumber at) h u = (begun text place phase s h, u)
scanned_unreadable text place phase s (NumberRange at) h u = (begun text place phase s h, u)
scanned_unreadable text place phase s TooLong h u = absurd u
scanned_unreadable text place phase s (NotUtf8 at) h u = absurd u
scanned_unreadable text place phase s (Unexpected at) h u = absurd u
scanned_unreadable text place phase s (Depth at) h u = absurd u
scanned_unreadable text place phase s (EndEarly at) h u = absurd u
scanned_unreadable text place phase s (After at) h u = absurd u

-- ---- a token that is refused

-- one of the two is `None`, or they are equal: the limit decides only whether a delimiter may be opened
abbrev AgreeAt : Option State → Option State → Type 0
AgreeAt None b = Unit {0}
AgreeAt (Some x) None = Unit {0}
AgreeAt (Some x) (Some y) = x ≡ y

agree_same : (a : Option State) → AgreeAt a a
agree_same None = tt
agree_same (Some x) = refl

agree_cond : (p q : Bool) (x : State) → AgreeAt (cond p (Some x) None) (cond q (Some x) None)
agree_cond true true x = refl
agree_cond true false x = tt
agree_cond false true x = tt
agree_cond false false x = tt

steps_agree : (m n : ℕ) (p : Phase) (s : List Delimiter) (k : TokenKind) → AgreeAt (step_at m p s k) (step_at n p s k)
steps_agree m n Begin s Word = refl
steps_agree m n Begin s Quoted = agree_same (step_at m Begin s Quoted)
steps_agree m n Begin s Number = agree_same (step_at m Begin s Number)
steps_agree m n Begin s Comma = tt
steps_agree m n Begin s (Open d) = tt
steps_agree m n Begin s (Close d) = tt
steps_agree m n Named s Word = tt
steps_agree m n Named s Quoted = tt
steps_agree m n Named s Number = tt
steps_agree m n Named s Comma = agree_same (step_at m Named s Comma)
steps_agree m n Named s (Open d) = agree_cond (ltb (length s) m) (ltb (length s) n) (state Begin (d ∷ s))
steps_agree m n Named s (Close d) = agree_same (step_at m Named s (Close d))
steps_agree m n Past s Word = tt
steps_agree m n Past s Quoted = tt
steps_agree m n Past s Number = tt
steps_agree m n Past s Comma = agree_same (step_at m Past s Comma)
steps_agree m n Past s (Open d) = tt
steps_agree m n Past s (Close d) = agree_same (step_at m Past s (Close d))

runs_agree : (ts : List Tok) (m n : ℕ) (st : State) → AgreeAt (run m st ts) (run n st ts)
runs_agree [] m n st = refl
runs_agree (t ∷ ts) m n st = both (step m st t.kind) (step n st t.kind) (steps_agree m n st.phase st.stack t.kind) (λ next. runs_agree ts m n next)
  where
    both : (a b : Option State) → AgreeAt a b → ((next : State) → AgreeAt (run m next ts) (run n next ts)) → AgreeAt (option_and_then (λ next. run m next ts) a) (option_and_then (λ next. run n next ts) b)
    both None b h go = tt
    both (Some x) None h go = right (option_and_then (λ next. run m next ts) (Some x))
      where
        right : (o : Option State) → AgreeAt o None
        right None = tt
        right (Some y) = tt
    both (Some x) (Some y) h go = subst (λ z. AgreeAt (run m x ts) (run n z ts)) h (go x)

-- a token that the machine refuses with the limit m is not the next one of any tree with that limit
not_deeper : (m : ℕ) (ts : List Tok) (t : Tok) (st : State) → run 16 start ts ≡ Some st → step m st t.kind ≡ None → Begins m (ts ++ t ∷ []) → ⊥
not_deeper m ts t st e none b =
    let whole = begins_runs m (ts ++ t ∷ []) b in
    let before = begins_runs m ts (record { others = t ∷ b.others; tree = subst (λ x. IsTree m x) (append_assoc ts (t ∷ []) b.others) b.tree }) in
    let same : before.0 ≡ st = subst (λ o. AgreeAt (Some before.0) o) e (subst (λ o. AgreeAt o (run 16 start ts)) before.1 (runs_agree ts m 16 start)) in
    let last = run_push m ts t before.0 before.1 in
    let gone : step m before.0 t.kind ≡ None = ap (λ (x : State). step m x t.kind) same ∙ none in
    cc

not_tree : (ts : List Tok) (st : State) → run 16 start ts ≡ Some st → (st ≡ state Past [] → ⊥) → IsTree 16 ts → ⊥
not_tree ts st e n t = n (let g = tree_runs 16 ts t in cc)

pub begin_not_past : (s r : List Delimiter) → state Begin s ≡ state Past r → ⊥
begin_not_past s r e = let p = ap (λ (x : State). x.phase) e in cc

pub named_not_past : (s r : List Delimiter) → state Named s ≡ state Past r → ⊥
named_not_past s r e = let p = ap (λ (x : State). x.phase) e in cc

open_not_past : (d : Delimiter) (s : List Delimiter) → state Past (d ∷ s) ≡ state Past [] → ⊥
open_not_past d s e = let p = ap (λ (x : State). x.stack) e in cc

module _ (text : List ℕ) (place : ℕ) (t : Tok) (rest : List ℕ) (f : First place (drop place text) t rest) where
  abbrev refused_at : (phase : Phase) (s : List Delimiter) → Scanned text place phase s → step_at 16 phase s t.kind ≡ None → Refused text t.piece.place
  refused_at phase s h e = record {
    before = begun text place phase s h;
    token = t;
    rest = rest;
    read = f;
    here = refl;
    refused = not_deeper 16 h.tokens t (state phase s) h.runs e;
  }

  unexpected : (phase : Phase) (s : List Delimiter) → Scanned text place phase s → ((m : ℕ) → step_at m phase s t.kind ≡ None) → (state phase s ≡ state Past [] → ⊥) → TokenFault text (Unexpected t.piece.place)
  unexpected phase s h e n =
      (refused_at phase s h (e 16), not_tree h.tokens (state phase s) h.runs n, λ b. not_deeper b.0 h.tokens t (state phase s) h.runs (e b.0) b.1)

  after_tree : Scanned text place Past [] → step_at 16 Past [] t.kind ≡ None → TokenFault text (After t.piece.place)
  after_tree h e = (refused_at Past [] h e, runs_tree 16 h.tokens h.runs)

-- ---- a higher limit

lt_higher : (a m n : ℕ) → m ≤ n → ltb a m ≡ true → ltb a n ≡ true
lt_higher a m n le e = grind arith

cond_some_true : (b : Bool) (x y : State) → cond b (Some x) None ≡ Some y → (b ≡ true) × (x ≡ y)
cond_some_true true x y e = (refl, cc)
cond_some_true false x y e = absurd cc

steps_higher : (m n : ℕ) (p : Phase) (s : List Delimiter) (k : TokenKind) (x : State) → m ≤ n → step_at m p s k ≡ Some x → step_at n p s k ≡ Some x
steps_higher m n Begin s Word x le e = e
steps_higher m n Begin s Quoted x le e = e
steps_higher m n Begin s Number x le e = e
steps_higher m n Begin s Comma x le e = e
steps_higher m n Begin s (Open d) x le e = e
steps_higher m n Begin s (Close d) x le e = e
steps_higher m n Named s Word x le e = e
steps_higher m n Named s Quoted x le e = e
steps_higher m n Named s Number x le e = e
steps_higher m n Named s Comma x le e = e
steps_higher m n Named s (Open d) x le e =
    let p = cond_some_true (ltb (length s) m) (state Begin (d ∷ s)) x e in
    ap (λ b. cond b (Some (state Begin (d ∷ s))) None) (lt_higher (length s) m n le p.0) ∙ ap Some p.1
steps_higher m n Named s (Close d) x le e = e
steps_higher m n Past s Word x le e = e
steps_higher m n Past s Quoted x le e = e
steps_higher m n Past s Number x le e = e
steps_higher m n Past s Comma x le e = e
steps_higher m n Past s (Open d) x le e = e
steps_higher m n Past s (Close d) x le e = e

runs_higher : (ts : List Tok) (m n : ℕ) (st x : State) → m ≤ n → run m st ts ≡ Some x → run n st ts ≡ Some x
runs_higher [] m n st x le e = e
runs_higher (t ∷ ts) m n st x le e =
    elim (step m st t.kind) as (λ o. step m st t.kind ≡ o → option_and_then (λ next. run m next ts) o ≡ Some x → option_and_then (λ next. run n next ts) (step n st t.kind) ≡ Some x) [
      | None ↦ λ h g. absurd cc
      | Some next ↦ λ h g. ap (λ o. option_and_then (λ y. run n y ts) o) (steps_higher m n st.phase st.stack t.kind next le h) ∙ runs_higher ts m n next x le g
    ] refl e

deeper : (ts : List Tok) (d : Delimiter) (s : List Delimiter) (q : Piece) → run 16 start ts ≡ Some (state Named s) → BeginsDeeper (ts ++ tok (Open d) q ∷ [])
deeper ts d s q e =
    let n = 17 + length s in
    let le : 16 ≤ n = omega arith in
    let pos : 0 < n = omega arith in
    let lt : ltb (length s) n ≡ true = grind arith in (
      n,
      runs_begins n (ts ++ tok (Open d) q ∷ []) (state Begin (d ∷ s)) pos
          (run_push n ts (tok (Open d) q) (state Named s) (runs_higher ts 16 n start (state Named s) le e)
          ∙ ap (λ b. cond b (Some (state Begin (d ∷ s))) None) lt),
    )

-- ---- the fault of a refused token

module _ (text : List ℕ) (place : ℕ) (q : Piece) (rest : List ℕ) where
  at_begin : (k : TokenKind) (s : List Delimiter) → First place (drop place text) (tok k q) rest → Scanned text place Begin s → step_at 16 Begin s k ≡ None → TokenFault text (Unexpected q.place)
  at_begin Word s f h e = absurd cc
  at_begin Quoted [] f h e = unexpected text place (tok Quoted q) rest f Begin [] h (λ m. refl) (begin_not_past [] [])
  at_begin Quoted (d ∷ s) f h e = absurd cc
  at_begin Number [] f h e = unexpected text place (tok Number q) rest f Begin [] h (λ m. refl) (begin_not_past [] [])
  at_begin Number (d ∷ s) f h e = absurd cc
  at_begin Comma s f h e = unexpected text place (tok Comma q) rest f Begin s h (λ m. refl) (begin_not_past s [])
  at_begin (Open d) s f h e = unexpected text place (tok (Open d) q) rest f Begin s h (λ m. refl) (begin_not_past s [])
  at_begin (Close d) s f h e = unexpected text place (tok (Close d) q) rest f Begin s h (λ m. refl) (begin_not_past s [])

  at_named : (k : TokenKind) (s : List Delimiter) → First place (drop place text) (tok k q) rest → Scanned text place Named s → step_at 16 Named s k ≡ None → TokenFault text (refusal Named s k q.place)
  at_named Word s f h e = unexpected text place (tok Word q) rest f Named s h (λ m. refl) (named_not_past s [])
  at_named Quoted s f h e = unexpected text place (tok Quoted q) rest f Named s h (λ m. refl) (named_not_past s [])
  at_named Number s f h e = unexpected text place (tok Number q) rest f Named s h (λ m. refl) (named_not_past s [])
  at_named Comma [] f h e = unexpected text place (tok Comma q) rest f Named [] h (λ m. refl) (named_not_past [] [])
  at_named Comma (d ∷ s) f h e = absurd cc
  at_named (Open d) s f h e =
      (refused_at text place (tok (Open d) q) rest f Named s h e, not_tree h.tokens (state Named s) h.runs (named_not_past s []), deeper h.tokens d s q h.runs)
  at_named (Close d) s f h e = unexpected text place (tok (Close d) q) rest f Named s h (λ m. e) (named_not_past s [])

  at_past : (k : TokenKind) (s : List Delimiter) → First place (drop place text) (tok k q) rest → Scanned text place Past s → step_at 16 Past s k ≡ None → TokenFault text (refusal Past s k q.place)
  at_past k [] f h e = after_tree text place (tok k q) rest f h e
  at_past Word (d ∷ s) f h e = unexpected text place (tok Word q) rest f Past (d ∷ s) h (λ m. refl) (open_not_past d s)
  at_past Quoted (d ∷ s) f h e = unexpected text place (tok Quoted q) rest f Past (d ∷ s) h (λ m. refl) (open_not_past d s)
  at_past Number (d ∷ s) f h e = unexpected text place (tok Number q) rest f Past (d ∷ s) h (λ m. refl) (open_not_past d s)
  at_past Comma (d ∷ s) f h e = absurd cc
  at_past (Open c) (d ∷ s) f h e = unexpected text place (tok (Open c) q) rest f Past (d ∷ s) h (λ m. refl) (open_not_past d s)
  at_past (Close c) (d ∷ s) f h e = unexpected text place (tok (Close c) q) rest f Past (d ∷ s) h (λ m. e) (open_not_past d s)

pub scanned_refused : (text : List ℕ) (place : ℕ) (phase : Phase) (s : List Delimiter) (t : Tok) (rest : List ℕ) → Scanned text place phase s → First place (drop place text) t rest → step_at 16 phase s t.kind ≡ None → TokenFault text (refusal phase s t.kind t.piece.place)
scanned_refused text place Begin s t rest h f e = at_begin text place t.piece rest t.kind s f h e
scanned_refused text place Named s t rest h f e = at_named text place t.piece rest t.kind s f h e
scanned_refused text place Past s t rest h f e = at_past text place t.piece rest t.kind s f h e

-- ---- the end of the text

cut_of : (text : List ℕ) (place : ℕ) (phase : Phase) (s : List Delimiter) → (h : Scanned text place phase s) → AllPass is_blank (drop place text) → Cut 0 text h.tokens
cut_of text place phase s h a = record { place' = place; rest = drop place text; front = h.front; blank = a }

pub scanned_tree : (text : List ℕ) (place : ℕ) → Scanned text place Past [] → AllPass is_blank (drop place text) → (ts : List Tok) × Cut 0 text ts × IsTree 16 ts
scanned_tree text place h a = (h.tokens, cut_of text place Past [] h a, runs_tree 16 h.tokens h.runs)

pub scanned_early : (text : List ℕ) (place : ℕ) (phase : Phase) (s : List Delimiter) → Scanned text place phase s → AllPass is_blank (drop place text) → (state phase s ≡ state Past [] → ⊥) → TokenFault text (EndEarly (length text))
scanned_early text place phase s h a n = (refl, h.tokens, cut_of text place phase s h a, runs_begins 16 h.tokens (state phase s) (omega arith) h.runs, not_tree h.tokens (state phase s) h.runs n)

-- reading a slice that reaches to the end of the text is reading the rest of the text
pub reads_rest : (text : List ℕ) (place : ℕ) (r : Result (Option Token) TextFault) → Reads place (take (length text - place) (drop place text)) r → Reads place (drop place text) r
reads_rest text place r h = subst (λ l. Reads place l r) (take_rest text place) h

pub tree_at : (text : List ℕ) (place : ℕ) (phase : Phase) (s : List Delimiter) → phase ≡ Past → s ≡ [] → Scanned text place phase s → AllPass is_blank (drop place text) → (ts : List Tok) × Cut 0 text ts × IsTree 16 ts
tree_at text place phase s e f h a = scanned_tree text place (subst (λ x. Scanned text place Past x) f (subst (λ x. Scanned text place x s) e h)) a

pub stack_of : (phase : Phase) (s : List Delimiter) → state phase s ≡ state Past [] → s ≡ []
stack_of phase s e = ap (λ (x : State). x.stack) e
