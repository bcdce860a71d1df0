-- The value of a row, slot by slot.
use Rattle.std.proofs.Common.{◌≡◌, ℕ, ◌≤◌, ◌<◌, ◌^◌, Bool, true, false, List, [], ◌∷◌, ◌++◌, length, map, drop, Option, Some, None, Result, Ok, Err, IfOk, refl, sym, ap, ◌∙◌, subst, arith, append_assoc}
use Rattle.std.specs.Prelude.{◌&&◌, not, cond}
use Rattle.std.specs.List.{AllPass, list_all}
use Rattle.std.specs.Option.{is_some}
use Rattle.std.proofs.lemmas.Bool.{and_parts, not-true}
use Rattle.crs_part.specs.declared.many.NonEmpty.{NonEmpty}
use Rattle.wkt_tree.specs.declared.token.TokenKind.TheVariants.{Comma, Open, Close}
use Rattle.wkt_tree.specs.Tree.{Piece, Tok, tok, Item, Items, last, more, tokens, all_tokens}
use Rattle.wkt_tree.specs.Tree as tree
use Rattle.wkt_grammar.specs.declared.table.Edition.TheVariants as editions
use Rattle.wkt_grammar.specs.declared.table.Slot.{Slot}
use Rattle.wkt_grammar.specs.declared.table.SlotName.{SlotName}
use Rattle.wkt_grammar.specs.declared.table.Node.{Node}
use Rattle.wkt_grammar.specs.declared.table.Keyword.{Keyword}
use Rattle.wkt_grammar.specs.declared.table.Takes.{Takes}
use Rattle.wkt_grammar.specs.declared.table.Takes.TheVariants as kinds
use Rattle.wkt_grammar.specs.declared.table.Argument.TheVariants as arguments
use Rattle.wkt_grammar.specs.declared.table.Often.TheVariants.{Once, AtMostOnce, Any, AtLeastOnce}
use Rattle.wkt_grammar.specs.Rows.{takes, enters, is_required}
use Rattle.wkt_grammar.specs.Words.{keyword_of, is_cs_kind, is_direction}
use Rattle.crs_number.specs.Count.{is_count}
use Rattle.wkt_grammar.specs.Walk.{is_many, may_begin, all_arguments, is_clear}
use Rattle.wkt_grammar.proofs.Keywords.{node_only}
use Rattle.wkt_grammar.proofs.Walks.{begins, each_argument}
use Rattle.wkt_grammar.specs.Slots.{argument_by}
use Rattle.wkt_grammar.specs.Next.{next_is, is_open, Follows}
use Rattle.wkt_grammar.specs.Bare.{Bare, Bares, text, number, word, node, args, bare, all_bare, shape}
use Rattle.wkt_grammar.specs.Fitted.{entered}
use Rattle.wkt_grammar.proofs.Fitting.{fitted_cuts, cuts_fits, passes_of}
use Rattle.wkt_grammar.specs.SecondEdition.{row_of, Fitted, Fitting, AllFitting, Cuts}
use Rattle.wkt_grammar.specs.Runs.{Fields, nothing, ◌&◌, Runs, IsNode, One, Maybe, Each, AtLeastOne}
use Rattle.wkt_grammar.specs.Leaves.{DenotesCount}
use Rattle.wkt_grammar.proofs.Leaves.{DenotesSmall}
use Rattle.wkt_grammar.proofs.NodeRows.{slot, Law}
use Rattle.wkt_build.specs.Rest.{Ends, Reads}
use Rattle.wkt_build.specs.Reads.{Next, Behind, Come, comes, BuildsNode}
use Rattle.wkt_build.proofs.Steps.{comes_next}

-- ---- the arguments of a node

behind_items : (items : Items) (c : Piece) (rest : List Tok) → Follows rest → Behind (args (all_bare items)) (tok Comma c ∷ (all_tokens items ++ rest)) rest
behind_items (last i) c rest f = (c, tree.tokens i ++ rest, rest, refl, record { item = i; is = refl; tokens_are = refl; follows = f }, refl)
behind_items (more i k items) c rest f =
    (c, (tree.tokens i ++ tok Comma k ∷ all_tokens items) ++ rest, tok Comma k ∷ (all_tokens items ++ rest), refl, record { item = i; is = refl; tokens_are = append_assoc (tree.tokens i) (tok Comma k ∷ all_tokens items) rest; follows = refl }, behind_items items k rest f)

come_items : (items : Items) (first : Tok) (rest : List Tok) → Follows rest → Come (args (all_bare items)) (first ∷ (all_tokens items ++ rest)) rest
come_items (last i) s rest f = (s, tree.tokens i ++ rest, rest, refl, record { item = i; is = refl; tokens_are = refl; follows = f }, refl)
come_items (more i k items) s rest f =
    (s, (tree.tokens i ++ tok Comma k ∷ all_tokens items) ++ rest, tok Comma k ∷ (all_tokens items ++ rest), refl, record { item = i; is = refl; tokens_are = append_assoc (tree.tokens i) (tok Comma k ∷ all_tokens items) rest; follows = refl }, behind_items items k rest f)

pub record Opened (items : Bares) (toks rest : List Tok) : Type 0 where
  pub end : List Tok
  pub ends : Ends end rest
  pub come : Come (args items) toks end

node_injective : (k k' : List ℕ) (xs ys : Bares) → node k xs ≡ node k' ys → xs ≡ ys
node_injective k k' xs ys e = cc

text_no_node : (b k : List ℕ) (xs : Bares) → text b ≡ node k xs → ⊥
text_no_node b k xs e = cc

number_no_node : (b k : List ℕ) (xs : Bares) → number b ≡ node k xs → ⊥
number_no_node b k xs e = cc

word_no_node : (b k : List ℕ) (xs : Bares) → word b ≡ node k xs → ⊥
word_no_node b k xs e = cc

opened_item : (i : Item) (k : List ℕ) (items : Bares) (old rest : List Tok) → bare i ≡ node k items → old ≡ tree.tokens i ++ rest → Opened items (drop 1 old) rest
opened_item (tree.text p) k items old rest e h = absurd (text_no_node p.bytes k items e)
opened_item (tree.number p) k items old rest e h = absurd (number_no_node p.bytes k items e)
opened_item (tree.word p) k items old rest e h = absurd (word_no_node p.bytes k items e)
opened_item (tree.node p d o is c) k items old rest e h =
    let same = node_injective p.bytes k (all_bare is) items e in
    let toks : drop 1 old ≡ tok (Open d) o ∷ (all_tokens is ++ (tok (Close d) c ∷ rest)) = ap (drop 1) h ∙ ap (λ (l : List Tok). tok (Open d) o ∷ l) (append_assoc (all_tokens is) (tok (Close d) c ∷ []) rest) in
    record {
      end = tok (Close d) c ∷ rest;
      ends = record { delimiter = d; piece = c; is = refl };
      come = subst (λ l. Come (args items) l (tok (Close d) c ∷ rest)) (sym toks) (subst (λ xs. Come (args xs) (tok (Open d) o ∷ (all_tokens is ++ (tok (Close d) c ∷ rest))) (tok (Close d) c ∷ rest)) same (come_items is (tok (Open d) o) (tok (Close d) c ∷ rest) refl));
    }

pub opened : (x : Bare) (k : List ℕ) (items : Bares) (old rest : List Tok) → x ≡ node k items → Next x old rest → Opened items (drop 1 old) rest
opened x k items old rest e n = opened_item n.item k items old rest (n.is ∙ e) n.tokens_are

end_follows : (end rest : List Tok) → Ends end rest → Follows end
end_follows end rest e = ap (next_is is_open) e.is

end_no_comma : (t : Takes) (end rest : List Tok) → Ends end rest → comes t end ≡ false
end_no_comma t end rest e = ap (comes t) e.is

behind_follows : (xs : List Bare) (toks end rest : List Tok) → Behind xs toks end → Ends end rest → Follows toks
behind_follows [] toks end rest b e = ap (next_is is_open) b ∙ end_follows end rest e
behind_follows (x ∷ xs) toks end rest b e = ap (next_is is_open) b.3

-- ---- the slots of a row, from the last one back

-- if the next arguments, the first one after an opening delimiter, fit the row, this was built from them
pub record ReadsAll (row : List Slot) (fields : Fields) (old new : List Tok) : Type 0 where
  pub of : (xs : List Bare) (end rest : List Tok) → Cuts row xs → Come xs old end → Ends end rest → Runs row fields xs × (new ≡ end)

no_cons : (x : Bare) (xs : List Bare) → x ∷ xs ≡ [] → ⊥
no_cons x xs h = cc

all_read : (new : List Tok) (xs : List Bare) (end rest : List Tok) → Cuts [] xs → Behind xs new end → Ends end rest → Runs [] nothing xs × (new ≡ end)
all_read new [] end rest c b e = (refl, b)
all_read new (x ∷ xs) end rest c b e = absurd (no_cons x xs c)

pub done : (new : List Tok) → Reads [] nothing new new
done new = record { of = all_read new }

-- if an argument that fits is next, after one token, it denotes v, and the tokens after it remain
abbrev pub Made : {A : Type 0} → Takes → (Bare → A → Type 0) → List Tok → List Tok → A → Type 0
Made t D old new v = (x : Bare) (first : Tok) (behind rest : List Tok) → Fitting t x → old ≡ first ∷ behind → Next x behind rest → D x v × (new ≡ rest)

module _ {A : Type 0} (t : Takes) (D : Bare → A → Type 0) (row : List Slot) (fields : Fields) (old mid new : List Tok) (v : A) (n : SlotName) (m : Made t D old mid v) (r : Reads row fields mid new) where
  one_run : (run rest' : List Bare) → AllFitting t run → length run ≡ 1 → Cuts row rest' → (end rest : List Tok) → Come (run ++ rest') old end → Ends end rest → One D v run × (AllPass (takes t) (map shape run) × Runs row fields rest' × (new ≡ end))
  one_run [] rest' f l c end rest b e = absurd (omega (arith, l))
  one_run (x ∷ []) rest' f l c end rest b e =
      let made = m x b.0 b.1 b.2 f.0 b.3 b.4 in
      let others = r.of rest' end rest c (subst (λ toks. Behind rest' toks end) (sym made.1) b.5) e in
      (made.0, (passes_of editions.Second t (x ∷ []) f, others.0, others.1))
  one_run (x ∷ y ∷ run) rest' f l c end rest b e = absurd (omega (arith, l))

  one_read : (xs : List Bare) (end rest : List Tok) → Cuts (slot n t Once ∷ row) xs → Come xs old end → Ends end rest → Runs (slot n t Once ∷ row) (One D v & fields) xs × (new ≡ end)
  one_read xs end rest c b e =
      let o = one_run c.0 c.1 c.3 c.4 c.5 end rest (subst (λ l. Come l old end) c.2 b) e in
      ((c.0, c.1, c.2, (o.1.0, c.4), o.0, o.1.1), o.1.2)

behind_come : (xs : List Bare) (toks rest : List Tok) → Behind xs toks rest → Come xs toks rest
behind_come [] toks rest b = b
behind_come (x ∷ xs) toks rest b = (tok Comma b.0, b.1, b.2, b.3, b.4, b.5)

pub first_one : {A : Type 0} {t : Takes} {D : Bare → A → Type 0} {tree : A → Bare} {row : List Slot} {fields : Fields} {mid new : List Tok} (n : SlotName) → Law t D tree → (old : List Tok) (v : A)
    → Made t D old mid v → Reads row fields mid new → ReadsAll (slot n t Once ∷ row) (One D v & fields) old new
first_one {A} {t} {D} {tree} {row} {fields} {mid} {new} n law old v m r = record { of = one_read t D row fields old mid new v n m r }

pub then_one : {A : Type 0} {t : Takes} {D : Bare → A → Type 0} {tree : A → Bare} {row : List Slot} {fields : Fields} {mid new : List Tok} (n : SlotName) → Law t D tree → (old : List Tok) (v : A)
    → Made t D old mid v → Reads row fields mid new → Reads (slot n t Once ∷ row) (One D v & fields) old new
then_one {A} {t} {D} {tree} {row} {fields} {mid} {new} n law old v m r = record { of = λ xs end rest c b e. one_read t D row fields old mid new v n m r xs end rest c (behind_come xs old end b) e }

-- ---- slots that may be empty

not_both : (c t b : Bool) → not (not c && (t && b)) ≡ true → c ≡ false → b ≡ true → t ≡ false
not_both true t b e p q = absurd cc
not_both false true true e p q = absurd cc
not_both false true false e p q = absurd cc
not_both false false b e p q = refl

-- a slot that may take none or several does not take an argument that the rest of a clear row begins with
not_taken : (s : Slot) (row : List Slot) (y : Bare) (ys : List Bare) → is_clear (s ∷ row) ≡ true → (is_required s.often && not (is_many s.often)) ≡ false → Cuts row (y ∷ ys) → takes s.takes (shape y) ≡ false
not_taken s row y ys c o k =
    let parts = and_parts (list_all (λ x. not (not (is_required s.often && not (is_many s.often)) && (takes s.takes x && may_begin row x))) all_arguments) (is_clear row) c in
    let test = each_argument (λ x. not (not (is_required s.often && not (is_many s.often)) && (takes s.takes x && may_begin row x))) (shape y) parts.0 in
    not_both (is_required s.often && not (is_many s.often)) (takes s.takes (shape y)) (may_begin row (shape y)) test o (begins row (shape y) (map shape ys) (cuts_fits editions.Second row (y ∷ ys) k))

comes_no : (s : Slot) (row : List Slot) (xs : List Bare) (toks end rest : List Tok) → is_clear (s ∷ row) ≡ true → (is_required s.often && not (is_many s.often)) ≡ false → Cuts row xs → Behind xs toks end → Ends end rest → comes s.takes toks ≡ false
comes_no s row [] toks end rest c o k b e = ap (comes s.takes) b ∙ end_no_comma s.takes end rest e
comes_no s row (y ∷ ys) toks end rest c o k b e = ap (comes s.takes) b.3 ∙ (comes_next s.takes b.0 y b.1 b.2 b.4 ∙ not_taken s row y ys c o k)

abbrev pub MadeSome : {A : Type 0} → Takes → (Bare → A → Type 0) → List Tok → List Tok → Option A → Type 0
MadeSome t D old new v = comes t old ≡ true → (x : Bare) (first : Tok) (behind rest : List Tok) → Fitting t x → old ≡ first ∷ behind → Next x behind rest → (w : _) × (v ≡ Some w) × D x w × (new ≡ rest)

module _ {A : Type 0} (t : Takes) (D : Bare → A → Type 0) (row : List Slot) (fields : Fields) (old mid new : List Tok) (v : Option A) (n : SlotName) (clear : is_clear (slot n t AtMostOnce ∷ row) ≡ true) (some : MadeSome t D old mid v) (left : comes t old ≡ false → mid ≡ old) (absent : comes t old ≡ false → v ≡ None) (r : Reads row fields mid new) where
  maybe_run : (run rest' : List Bare) → AllFitting t run → length run ≤ 1 → Cuts row rest' → (end rest : List Tok) → Behind (run ++ rest') old end → Ends end rest → Maybe D v run × (AllPass (takes t) (map shape run) × Runs row fields rest' × (new ≡ end))
  maybe_run [] rest' f l c end rest b e =
      let no = comes_no (slot n t AtMostOnce) row rest' old end rest clear refl c b e in
      let others = r.of rest' end rest c (subst (λ toks. Behind rest' toks end) (sym (left no)) b) e in
      (subst (λ o. Maybe D o []) (sym (absent no)) tt, (passes_of editions.Second t [] f, others.0, others.1))
  maybe_run (x ∷ []) rest' f l c end rest b e =
      let yes = ap (comes t) b.3 ∙ (comes_next t b.0 x b.1 b.2 b.4 ∙ f.0.taken) in
      let made = some yes x (tok Comma b.0) b.1 b.2 f.0 b.3 b.4 in
      let others = r.of rest' end rest c (subst (λ toks. Behind rest' toks end) (sym made.3) b.5) e in
      (subst (λ o. Maybe D o (x ∷ [])) (sym made.1) made.2, (passes_of editions.Second t (x ∷ []) f, others.0, others.1))
  maybe_run (x ∷ y ∷ run) rest' f l c end rest b e = absurd (omega (arith, l))

  maybe_read : (xs : List Bare) (end rest : List Tok) → Cuts (slot n t AtMostOnce ∷ row) xs → Behind xs old end → Ends end rest → Runs (slot n t AtMostOnce ∷ row) (Maybe D v & fields) xs × (new ≡ end)
  maybe_read xs end rest c b e =
      let o = maybe_run c.0 c.1 c.3 c.4 c.5 end rest (subst (λ l. Behind l old end) c.2 b) e in
      ((c.0, c.1, c.2, (o.1.0, c.4), o.0, o.1.1), o.1.2)

pub then_maybe : {A : Type 0} {t : Takes} {D : Bare → A → Type 0} {tree : A → Bare} {row : List Slot} {fields : Fields} {mid new : List Tok} (n : SlotName) → Law t D tree → is_clear (slot n t AtMostOnce ∷ row) ≡ true → (old : List Tok) (v : Option A)
    → MadeSome t D old mid v → (comes t old ≡ false → mid ≡ old) → (comes t old ≡ false → v ≡ None) → Reads row fields mid new → Reads (slot n t AtMostOnce ∷ row) (Maybe D v & fields) old new
then_maybe {A} {t} {D} {tree} {row} {fields} {mid} {new} n law clear old v some left absent r = record { of = maybe_read t D row fields old mid new v n clear some left absent r }

-- ---- slots that take many arguments

abbrev pub MadeEach : {A : Type 0} → Takes → (Bare → A → Type 0) → List Tok → List Tok → List A → Type 0
MadeEach t D old new vs = (run : List Bare) (end : List Tok) → AllFitting t run → Behind run old end → Follows end → comes t end ≡ false → Each D vs run × (new ≡ end)

record Split (run rest' : List Bare) (old end : List Tok) : Type 0 where
  pub mid : List Tok
  pub front : Behind run old mid
  pub back : Behind rest' mid end

split_behind : (run rest' : List Bare) (old end : List Tok) → Behind (run ++ rest') old end → Split run rest' old end
split_behind [] rest' old end b = record { mid = old; front = refl; back = b }
split_behind (x ∷ run) rest' old end b =
    let s = split_behind run rest' b.2 end b.5 in
    record { mid = s.mid; front = (b.0, b.1, b.2, b.3, b.4, s.front); back = s.back }

module _ {A : Type 0} (t : Takes) (D : Bare → A → Type 0) (row : List Slot) (fields : Fields) (old mid new : List Tok) (vs : List A) (n : SlotName) (clear : is_clear (slot n t Any ∷ row) ≡ true) (m : MadeEach t D old mid vs) (r : Reads row fields mid new) where
  each_read : (xs : List Bare) (end rest : List Tok) → Cuts (slot n t Any ∷ row) xs → Behind xs old end → Ends end rest → Runs (slot n t Any ∷ row) (Each D vs & fields) xs × (new ≡ end)
  each_read xs end rest c b e =
      let s = split_behind c.0 c.1 old end (subst (λ l. Behind l old end) c.2 b) in
      let no = comes_no (slot n t Any) row c.1 s.mid end rest clear refl c.5 s.back e in
      let made = m c.0 s.mid c.3 s.front (behind_follows c.1 s.mid end rest s.back e) no in
      let others = r.of c.1 end rest c.5 (subst (λ toks. Behind c.1 toks end) (sym made.1) s.back) e in
      ((c.0, c.1, c.2, (passes_of editions.Second t c.0 c.3, c.4), made.0, others.0), others.1)

pub then_each : {A : Type 0} {t : Takes} {D : Bare → A → Type 0} {tree : A → Bare} {row : List Slot} {fields : Fields} {mid new : List Tok} (n : SlotName) → Law t D tree → is_clear (slot n t Any ∷ row) ≡ true → (old : List Tok) (vs : List A)
    → MadeEach t D old mid vs → Reads row fields mid new → Reads (slot n t Any ∷ row) (Each D vs & fields) old new
then_each {A} {t} {D} {tree} {row} {fields} {mid} {new} n law clear old vs m r = record { of = each_read t D row fields old mid new vs n clear m r }

module _ {A : Type 0} (t : Takes) (D : Bare → A → Type 0) (row : List Slot) (fields : Fields) (old one mid new : List Tok) (v : NonEmpty A) (n : SlotName) (clear : is_clear (slot n t AtLeastOnce ∷ row) ≡ true) (p : Made t D old one v.first) (q : MadeEach t D one mid v.others) (r : Reads row fields mid new) where
  some_run : (run rest' : List Bare) → AllFitting t run → 1 ≤ length run → Cuts row rest' → (end rest : List Tok) → Behind (run ++ rest') old end → Ends end rest → AtLeastOne D v run × (Runs row fields rest' × (new ≡ end))
  some_run [] rest' f l c end rest b e = absurd (omega (arith, l))
  some_run (x ∷ run) rest' f l c end rest b e =
      let first = p x (tok Comma b.0) b.1 b.2 f.0 b.3 b.4 in
      let s = split_behind run rest' b.2 end b.5 in
      let no = comes_no (slot n t AtLeastOnce) row rest' s.mid end rest clear refl c s.back e in
      let made = q run s.mid f.1 (subst (λ toks. Behind run toks s.mid) (sym first.1) s.front) (behind_follows rest' s.mid end rest s.back e) no in
      let others = r.of rest' end rest c (subst (λ toks. Behind rest' toks end) (sym made.1) s.back) e in
      ((first.0, made.0), (others.0, others.1))

  some_read : (xs : List Bare) (end rest : List Tok) → Cuts (slot n t AtLeastOnce ∷ row) xs → Behind xs old end → Ends end rest → Runs (slot n t AtLeastOnce ∷ row) (AtLeastOne D v & fields) xs × (new ≡ end)
  some_read xs end rest c b e =
      let o = some_run c.0 c.1 c.3 c.4 c.5 end rest (subst (λ l. Behind l old end) c.2 b) e in
      ((c.0, c.1, c.2, (passes_of editions.Second t c.0 c.3, c.4), o.0, o.1.0), o.1.1)

pub then_some : {A : Type 0} {t : Takes} {D : Bare → A → Type 0} {tree : A → Bare} {row : List Slot} {fields : Fields} {mid new : List Tok} (n : SlotName) → Law t D tree → is_clear (slot n t AtLeastOnce ∷ row) ≡ true → (old one : List Tok) (v : NonEmpty A)
    → Made t D old one v.first → MadeEach t D one mid v.others → Reads row fields mid new → Reads (slot n t AtLeastOnce ∷ row) (AtLeastOne D v & fields) old new
then_some {A} {t} {D} {tree} {row} {fields} {mid} {new} n law clear old one v p q r = record { of = some_read t D row fields old one mid new v n clear p q r }

-- ---- nodes

-- if a node that fits the row is next, with any keyword, it has the fields of v, and the tokens after it remain
abbrev pub MadeNode : {A : Type 0} → Node → (A → Fields) → List Tok → List Tok → A → Type 0
MadeNode n F old new v = (x : Bare) (k : List ℕ) (items : Bares) (K : Keyword) (rest : List Tok) → x ≡ node k items → keyword_of k ≡ Some K → Fitted n items → Next x old rest → IsNode K n (F v) x × (new ≡ rest)

pub made_node : {A : Type 0} {one last : List Tok} (n : Node) (F : A → Fields) (old new : List Tok) (v : A) → one ≡ drop 1 old → ReadsAll (row_of n) (F v) one last → new ≡ drop 1 last → MadeNode n F old new v
made_node {A} {one} {last} n F old new v o r w x k items K rest e m f next =
    let all = opened x k items old rest e next in
    let reads = r.of (args items) all.end rest (fitted_cuts editions.Second n items f) (subst (λ l. Come (args items) l all.end) (sym o) all.come) all.ends in
    (record { keyword = k; items = items; is = e; meaning = m; runs = reads.0 }, w ∙ (ap (drop 1) reads.1 ∙ ap (drop 1) all.ends.is))

-- the slot takes no text, no number, and no listed word
abbrev pub takes_nodes : Takes → Bool
takes_nodes t = not (takes t arguments.Text) && (not (takes t arguments.Number) && (not (takes t arguments.Count) && (not (takes t arguments.CsKind) && not (takes t arguments.Direction))))

pub record IsEntered (t : Takes) (x : Bare) : Type 0 where
  pub keyword : List ℕ
  pub items : Bares
  pub means : Keyword
  pub row : Node
  pub is : x ≡ node keyword items
  pub meaning : keyword_of keyword ≡ Some means
  pub enters : enters t means ≡ Some row
  pub fitted : Fitted row items

-- the argument of a slot for nodes is a node
pub entered_of : (t : Takes) → takes_nodes t ≡ true → (x : Bare) → Fitting t x → IsEntered t x
entered_of t e (text b) f = let p = and_parts (not (takes t arguments.Text)) _ e in let q = sym (not-true _ p.0) ∙ f.taken in absurd cc
entered_of t e (number b) f =
    let p = and_parts (not (takes t arguments.Text)) _ e in
    let q = and_parts (not (takes t arguments.Number)) _ p.1 in
    let r = and_parts (not (takes t arguments.Count)) _ q.1 in
    absurd (no_number (is_count b) (not-true _ q.0) (not-true _ r.0) f.taken)
  where
    no_number : (c : Bool) → takes t arguments.Number ≡ false → takes t arguments.Count ≡ false → takes t (cond c arguments.Count arguments.Number) ≡ true → ⊥
    no_number true p q r = let z = sym q ∙ r in cc
    no_number false p q r = let z = sym p ∙ r in cc
entered_of t e (word b) f =
    let p = and_parts (not (takes t arguments.Text)) _ e in
    let q = and_parts (not (takes t arguments.Number)) _ p.1 in
    let r = and_parts (not (takes t arguments.Count)) _ q.1 in
    let s = and_parts (not (takes t arguments.CsKind)) _ r.1 in
    absurd (no_word (is_cs_kind b) (is_direction b) (not-true _ s.0) (not-true _ s.1) f.taken)
  where
    no_word : (c d : Bool) → takes t arguments.CsKind ≡ false → takes t arguments.Direction ≡ false → takes t (cond c arguments.CsKind (cond d arguments.Direction arguments.OtherWord)) ≡ true → ⊥
    no_word true d p q r = let z = sym p ∙ r in cc
    no_word false true p q r = let z = sym q ∙ r in cc
    no_word false false p q r = cc
entered_of t e (node k xs) f = by (keyword_of k) refl f.taken
  where
    some_of : (o : Option Node) → is_some o ≡ true → (m : Node) × (o ≡ Some m)
    some_of None h = absurd cc
    some_of (Some m) h = (m, refl)

    by : (o : Option Keyword) → keyword_of k ≡ o → takes t (argument_by o) ≡ true → IsEntered t (node k xs)
    by None p q = absurd cc
    by (Some K) p q =
        let m = some_of (enters t K) q in
        record { keyword = k; items = xs; means = K; row = m.0; is = refl; meaning = p; enters = m.1; fitted = f.sound m.0 (ap (entered t) p ∙ m.1) }

-- the argument of a slot for nodes with one keyword is a node with this keyword
pub made_argument : {A : Type 0} (K : Keyword) (n : Node) (F : A → Fields) (old new : List Tok) (v : A) → MadeNode n F old new v
    → (x : Bare) (rest : List Tok) → Fitting (kinds.Node K n) x → Next x old rest → IsNode K n (F v) x × (new ≡ rest)
made_argument K n F old new v m x rest f next =
    let e = entered_of (kinds.Node K n) refl x f in
    let o = node_only K n e.means e.row e.enters in
    m x e.keyword e.items K rest e.is (e.meaning ∙ ap Some o.0) (subst (λ r. Fitted r e.items) o.1 e.fitted) next

pub argument_result : {A E : Type 0} (K : Keyword) (n : Node) (F : A → Fields) (old new : List Tok) (r : Result A E) → BuildsNode n F old new r
    → (x : Bare) (rest : List Tok) → Fitting (kinds.Node K n) x → Next x old rest → IfOk r (λ v. IsNode K n (F v) x × (new ≡ rest))
argument_result K n F old new (Ok v) m x rest f next = made_argument K n F old new v m x rest f next
argument_result K n F old new (Err e) m x rest f next = tt

-- ---- equal values

pub made_as : {A : Type 0} {t : Takes} {D : Bare → A → Type 0} {tree : A → Bare} → Law t D tree → (old mid : List Tok) (v w : A) → w ≡ v → Made t D old mid v → Made t D old mid w
made_as {A} {t} {D} law old mid v w e b x first behind rest f p q = let made = b x first behind rest f p q in (subst (D x) (sym e) made.0, made.1)

pub each_as : {A : Type 0} {t : Takes} {D : Bare → A → Type 0} {tree : A → Bare} → Law t D tree → (old mid : List Tok) (vs ws : List A) → ws ≡ vs → MadeEach t D old mid vs → MadeEach t D old mid ws
each_as {A} {t} {D} law old mid vs ws e b run end f p q r = let made = b run end f p q r in (subst (λ us. Each D us run) (sym e) made.0, made.1)

pub count_as : (old mid : List Tok) (n m : ℕ) (h : m < 2 ^ 32) → m ≡ n → Made kinds.Count DenotesCount old mid n → Made kinds.Count DenotesSmall old mid (record { value = m; small = h })
count_as old mid n m h e b x first behind rest f p q = let made = b x first behind rest f p q in (subst (DenotesCount x) (sym e) made.0, made.1)
