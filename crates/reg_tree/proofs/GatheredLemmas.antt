-- Keys and sayings, gathered one operation after another.
use Rattle.std.proofs.Common.{◌≡◌, ℕ, ◌+◌, ◌<◌, ◌≤◌, Bool, true, false, not, cond, ◌&&◌, ◌||◌, List, [], ◌∷◌, ◌++◌, map, length, get_or, take, Option, Some, None, refl, sym, ap, ◌∙◌, subst, inl, inr}
use Rattle.std.proofs.lemmas.Bool.{and_parts, and_from, or_left, or_right, or_cases, not-true, not_from_false, false_from_ne_true, true≢false}
use Rattle.std.proofs.lemmas.List.{take_all, take_more, map-append}
use Rattle.std.proofs.lemmas.List.Folds.{list_any-append}
use Rattle.std.proofs.lemmas.List.Elements.{Contains-push_cases}
use Rattle.std.specs.Prelude.{Contains}
use Rattle.std.specs.List.{list_any}
use Rattle.std.specs.Borrow.{Bor}
use Rattle.std.specs.BTreeSet.{BTreeSet, contains_by}
use Rattle.std.specs.Cmp.{both_ways, tied_itself, Equal-is}
use Rattle.std.specs.Option.{option_cmp}
use Rattle.std.specs.Ordering.{is_eq, eq_by_cmp, ordering_then}
use Rattle.std.specs.declared.cmp.Ordering.{Ordering}
use Rattle.std.specs.declared.cmp.Ordering.TheVariants.{Less, Equal, Greater}
use Rattle.reg_op.specs.Set.{contains, items, contains-items}
use Rattle.reg_op.specs.Finite.{any}
use Rattle.reg_op.specs.Ids.{Id}
use Rattle.reg_op.specs.declared.operation.OpBody.{OpBody as Body}
use Rattle.reg_op.specs.declared.operation.OpBody.TheVariants.{Enter, Supersede, Retire}
use Rattle.reg_op.specs.Operations.{Op, Ops, op_cmp}
use Rattle.reg_op.specs.Contents.{Content}
use Rattle.reg_op.specs.Kept.{entering}
use Rattle.reg_op.specs.Status.{retires}
use Rattle.reg_op.proofs.OpLemmas.{both_equal, op_total, op_exact}
use Rattle.reg_report.specs.Conflicts.{KeyBytes, key_cmp, HasKey}
use Rattle.reg_report.specs.Keys.{key_bytes, text_cmp}
use Rattle.reg_report.specs.declared.key.KeyText.{KeyText}
use Rattle.reg_report.proofs.ConflictLemmas.{key_total, key_exact, none_in, in_cons, in_head, in_tail}
use Rattle.reg_tree.specs.Sayings.{Keys, Saying, By, Withdrawn, enters_key, is_in_use, tells, says, unsays, is_owed, undone}
use Rattle.reg_tree.specs.declared.undone.saying.SayingText.{SayingText}
use Rattle.reg_tree.specs.declared.undone.voice.Voice.{Voice}
use Rattle.reg_tree.specs.Voices.{IsRight, AreRight, is_key, AreKeyed, AreAllRight, AreVoices, saying_cmp, said_of, saying_seen, saying_is, has_key, has_saying, PutsLive, IsVoice, content_of, is_unsaid, lost_at, lost_in}
use Rattle.reg_tree.proofs.ListLemmas.{any_at, any_has}
use Rattle.reg_tree.proofs.VoiceLemmas.{right_is}

-- ---- one more element

pub any_more : {X : Type 0} (t : X → Bool) (xs : List X) (k : ℕ) (x : X) → k < length xs → x ≡ get_or xs k x → list_any t (take (k + 1) xs) ≡ (list_any t (take k xs) || t x)
any_more t xs k x h at = ap (list_any t) (take_more xs k x h) ∙ list_any-append t (take k xs) (get_or xs k x ∷ []) ∙ (λ j. list_any t (take k xs) || (t (sym at j) || false)) ∙ ap (λ b. list_any t (take k xs) || b) (or_no (t x))
  where
    or_no : (b : Bool) → (b || false) ≡ b
    or_no true = refl
    or_no false = refl

pub or_turned : (a b : Bool) → (a || b) ≡ (b || a)
or_turned true true = refl
or_turned true false = refl
or_turned false true = refl
or_turned false false = refl

pub cond_or : (b x : Bool) → cond b true x ≡ (b || x)
cond_or true x = refl
cond_or false x = refl

-- ---- sets of sayings

abbrev pub as_key : List ℕ → Bor (List ℕ)
as_key t = record { ref_ptr = (0, 0); now = t }

abbrev pub as_key_text : KeyBytes → KeyText
as_key_text k = record { authority = as_key k.authority; code = as_key k.code }

abbrev pub as_text : Saying KeyBytes → SayingText
as_text (By a b) = record { key = as_key_text a; by = Some (as_key_text b) }
as_text (Withdrawn a) = record { key = as_key_text a; by = None }

pub as_seen : (q : Saying KeyBytes) → saying_seen (as_text q) ≡ q
as_seen (By a b) = refl
as_seen (Withdrawn a) = refl

abbrev pub pair_cmp : SayingText → SayingText → Ordering
pair_cmp a b = ordering_then (text_cmp a.key b.key) (option_cmp text_cmp a.by b.by)

by_cmp : (x y : KeyBytes) (m n : Option KeyText) → ordering_then (key_cmp x y) (option_cmp text_cmp m n) ≡ saying_cmp (said_of x m) (said_of y n)
by_cmp x y None None = refl
by_cmp x y None (Some n) = refl
by_cmp x y (Some m) None = refl
by_cmp x y (Some m) (Some n) = refl

pub cmp_is : (a b : SayingText) → pair_cmp a b ≡ saying_cmp (saying_seen a) (saying_seen b)
cmp_is a b = by_cmp (key_bytes a.key) (key_bytes b.key) a.by b.by

pub in_set : (s : BTreeSet SayingText) (q : SayingText) → contains_by (pair_cmp q) s ≡ has_saying s (saying_seen q)
in_set s q = (λ i. list_any (λ t. is_eq (cmp_is q t i)) s.keys)

pub puts_saying : (old new : BTreeSet SayingText) (key : SayingText) → ((q : SayingText) → contains_by (pair_cmp q) new ≡ cond (is_eq (pair_cmp key q)) true (contains_by (pair_cmp q) old)) →
    (q : Saying KeyBytes) → has_saying new q ≡ (saying_is (Some key) q || has_saying old q)
puts_saying old new key up q = subst (λ v. has_saying new v ≡ (saying_is (Some key) v || has_saying old v)) (as_seen q)
    (sym (in_set new (as_text q)) ∙ up (as_text q) ∙ cond_or (is_eq (pair_cmp key (as_text q))) (contains_by (pair_cmp (as_text q)) old)
    ∙ (λ i. is_eq (cmp_is key (as_text q) i) || in_set old (as_text q) i))

pub puts_key : (old new : BTreeSet KeyText) (key : KeyText) → ((q : KeyText) → contains_by (text_cmp q) new ≡ cond (is_eq (text_cmp key q)) true (contains_by (text_cmp q) old)) →
    (q : KeyBytes) → has_key new q ≡ (is_key (key_bytes key) q || has_key old q)
puts_key old new key up q = up (as_key_text q) ∙ cond_or (is_key (key_bytes key) q) (has_key old q)

and_exact : (a b : Bool) → (a && b) ≡ true → (a ≡ true) × (b ≡ true)
and_exact a b h = and_parts a b h

pub saying_exact : (a b : Saying KeyBytes) → saying_cmp a b ≡ Equal → a ≡ b
saying_exact (By a b) (By c d) e = let p = both_equal (key_cmp a c) (key_cmp b d) e in λ i. By (key_exact a c p.0 i) (key_exact b d p.1 i)
saying_exact (By a b) (Withdrawn c) e = absurd (never (both_equal (key_cmp a c) Greater e).1)
  where
    never : Greater ≡ Equal → ⊥
    never h = true≢false (sym (ap is_eq h))
saying_exact (Withdrawn a) (By c d) e = absurd (never (both_equal (key_cmp a c) Less e).1)
  where
    never : Less ≡ Equal → ⊥
    never h = true≢false (sym (ap is_eq h))
saying_exact (Withdrawn a) (Withdrawn c) e = ap Withdrawn (key_exact a c (both_equal (key_cmp a c) Equal e).0)

pub saying_itself : (a : Saying KeyBytes) → saying_cmp a a ≡ Equal
saying_itself (By a b) = (λ i. ordering_then (tied_itself key_total a i) (key_cmp b b)) ∙ tied_itself key_total b
saying_itself (Withdrawn a) = (λ i. ordering_then (tied_itself key_total a i) Equal)

pub same_saying : (a b : Saying KeyBytes) → is_eq (saying_cmp a b) ≡ true → a ≡ b
same_saying a b h = saying_exact a b ((Equal-is (saying_cmp a b)).0 h)

-- ---- keys in use

pub live_step : (s : Ops) (i : Id) (b : Body) (note : List ℕ) (old new : BTreeSet KeyText) → contains s (record { id = i; body = b; note = note }) ≡ true → PutsLive s i b old new →
    (has : Keys KeyBytes) → AreRight has s → (q : KeyBytes) → has_key new q ≡ (has_key old q || (enters_key has q b && not (retires s i)))
live_step s i (Enter text) note old new there (key, keyed, puts) has right q =
    puts q ∙ (λ j. (sym (right_is has text key (right i text note there) keyed q) j && not (retires s i)) || has_key old q) ∙ or_turned (has text q && not (retires s i)) (has_key old q)
live_step s i (Supersede a b) note old new there puts has right q = puts q ∙ or_no (has_key old q)
  where
    or_no : (b : Bool) → b ≡ (b || false)
    or_no true = refl
    or_no false = refl
live_step s i (Retire a) note old new there puts has right q = puts q ∙ or_no (has_key old q)
  where
    or_no : (b : Bool) → b ≡ (b || false)
    or_no true = refl
    or_no false = refl

-- the effect enters a text that has a key, if it enters one
abbrev pub KeyedIn : Body → Type 0
KeyedIn (Enter text) = (k : KeyBytes) × HasKey text k
KeyedIn (Supersede a b) = Unit {0}
KeyedIn (Retire e) = Unit {0}

pub keyed_by : (s : Ops) (i : Id) (b : Body) (old new : BTreeSet KeyText) → PutsLive s i b old new → KeyedIn b
keyed_by s i (Enter text) old new (key, keyed, puts) = (key, keyed)
keyed_by s i (Supersede a b) old new puts = tt
keyed_by s i (Retire e) old new puts = tt

abbrev pub AllKeyed : List Op → Type 0
AllKeyed os = (o : Op) → Contains os o → KeyedIn o.body

-- ---- members

pub in_items : (s : Ops) (o : Op) → Contains (items s) o → contains s o ≡ true
in_items s o h = contains-items s o ∙ any_at (eq_by_cmp op_cmp o) (items s) o h (ap is_eq (tied_itself op_total o))

pub items_in : (s : Ops) (o : Op) → contains s o ≡ true → Contains (items s) o
items_in s o h =
    let r = any_has (eq_by_cmp op_cmp o) (items s) (sym (contains-items s o) ∙ h) in
    subst (Contains (items s)) (sym (op_exact o r.0 ((Equal-is (op_cmp o r.0)).0 r.2))) r.1

-- ---- loops

pub no_live : (s : BTreeSet KeyText) → s.keys ≡ [] → (q : KeyBytes) → has_key s q ≡ false
no_live s e q = ap (list_any (λ (k : KeyText). is_eq (key_cmp q (key_bytes k)))) e

pub none_said : (s : BTreeSet SayingText) → s.keys ≡ [] → (q : Saying KeyBytes) → has_saying s q ≡ false
none_said s e q = ap (list_any (λ (t : SayingText). is_eq (saying_cmp q (saying_seen t)))) e

-- one more element, where the set had what the elements before it put there
pub or_more : {X : Type 0} (t : X → Bool) (xs : List X) (k : ℕ) (x : X) → k < length xs → x ≡ get_or xs k x → (new old : Bool) → new ≡ (old || t x) → old ≡ list_any t (take k xs) → new ≡ list_any t (take (k + 1) xs)
or_more t xs k x h at new old e was = e ∙ ap (λ b. b || t x) was ∙ sym (any_more t xs k x h at)

pub none_keyed : AllKeyed []
none_keyed o h = absurd (none_in o h)

pub keyed_more : (os : List Op) (k : ℕ) (x : Op) → k < length os → x ≡ get_or os k x → AllKeyed (take k os) → KeyedIn x.body → AllKeyed (take (k + 1) os)
keyed_more os k x h at all one = subst AllKeyed (sym (take_more os k x h)) (λ o m. elim (Contains-push_cases (take k os) (get_or os k x) o m) [
  | inl early ↦ all o early
  | inr last ↦ subst (λ (p : Op). KeyedIn p.body) (at ∙ last) one
])

pub are_keyed : (s : Ops) → AllKeyed (items s) → AreKeyed s
are_keyed s all e text note there = all (entering e text note) (items_in s (entering e text note) there)

-- ---- steps of the loops

pub puts_enter : (s : Ops) (i : Id) (b : Body) (text : List ℕ) (key : KeyBytes) (old new : BTreeSet KeyText) → b ≡ Enter text → HasKey text key →
    ((q : KeyBytes) → has_key new q ≡ ((is_eq (key_cmp key q) && not (retires s i)) || has_key old q)) → PutsLive s i b old new
puts_enter s i b text key old new e keyed puts = subst (λ c. PutsLive s i c old new) (sym e) (key, keyed, puts)

pub not_put : (s : Ops) (i j : Id) (key : KeyBytes) (old : BTreeSet KeyText) → j ≡ i → retires s j ≡ true → (q : KeyBytes) → has_key old q ≡ ((is_eq (key_cmp key q) && not (retires s i)) || has_key old q)
not_put s i j key old e gone q =
    let is : retires s i ≡ true = subst (λ v. retires s v ≡ true) e gone in
    sym ((λ k. (is_eq (key_cmp key q) && not (is k)) || has_key old q) ∙ ap (λ b. b || has_key old q) (and_no (is_eq (key_cmp key q))))
  where
    and_no : (b : Bool) → (b && false) ≡ false
    and_no true = refl
    and_no false = refl

pub was_put : (s : Ops) (i j : Id) (key : KeyBytes) (old new : BTreeSet KeyText) → j ≡ i → retires s j ≡ false → ((q : KeyBytes) → has_key new q ≡ (is_key key q || has_key old q)) →
    (q : KeyBytes) → has_key new q ≡ ((is_eq (key_cmp key q) && not (retires s i)) || has_key old q)
was_put s i j key old new e stays puts q =
    let is : retires s i ≡ false = subst (λ v. retires s v ≡ false) e stays in
    puts q ∙ sym ((λ k. (is_eq (key_cmp key q) && not (is k)) || has_key old q) ∙ ap (λ b. b || has_key old q) (and_yes (is_eq (key_cmp key q))))
  where
    and_yes : (b : Bool) → (b && true) ≡ b
    and_yes true = refl
    and_yes false = refl

-- all elements were looked at
pub in_all : (t : Op → Bool) (s : Ops) (os : List Op) (k : ℕ) (b : Bool) → os ≡ items s → length os ≤ k → b ≡ list_any t (take k os) → b ≡ any t s
in_all t s os k b e past is = is ∙ ap (list_any t) (take_all k os past ∙ e)

pub or_more_from : {X : Type 0} (t : X → Bool) (xs : List X) (k : ℕ) (x : X) → k < length xs → x ≡ get_or xs k x → (first new old : Bool) → new ≡ (old || t x) →
    old ≡ (first || list_any t (take k xs)) → new ≡ (first || list_any t (take (k + 1) xs))
or_more_from t xs k x h at first new old e was =
    e ∙ ap (λ b. b || t x) was ∙ turned first (list_any t (take k xs)) (t x) ∙ ap (λ b. first || b) (sym (any_more t xs k x h at))
  where
    turned : (a b c : Bool) → ((a || b) || c) ≡ (a || (b || c))
    turned true b c = refl
    turned false b c = refl

-- ---- voices

pub contents_more : (vs new : List Voice) (v : Voice) (rs : List Content) (k : ℕ) (r : Content) → new ≡ vs ++ v ∷ [] → content_of v ≡ r → k < length rs → r ≡ get_or rs k r →
    map content_of vs ≡ take k rs → map content_of new ≡ take (k + 1) rs
contents_more vs new v rs k r e is h at was =
    ap (map content_of) e ∙ map-append content_of vs (v ∷ []) ∙ (λ j. was j ++ is j ∷ []) ∙ (λ j. take k rs ++ at j ∷ []) ∙ sym (take_more rs k r h)

pub voices_more : (vs new : List Voice) (v : Voice) → new ≡ vs ++ v ∷ [] → IsVoice v → AreVoices vs → AreVoices new
voices_more vs new v e one are = subst AreVoices (sym e) (λ u m. elim (Contains-push_cases vs v u m) [
  | inl early ↦ are u early
  | inr last ↦ subst IsVoice last one
])

pub any_map : {X Y : Type 0} (f : X → Y) (p : Y → Bool) (xs : List X) → list_any (λ x. p (f x)) xs ≡ list_any p (map f xs)
any_map f p [] = refl
any_map f p (x ∷ xs) = ap (λ b. p (f x) || b) (any_map f p xs)

pub with_one : (has : Keys KeyBytes) (j v : Voice) (vs : List Voice) → Contains vs v → AreAllRight has (j ∷ vs) → AreAllRight has (j ∷ v ∷ vs)
with_one has j v vs m right u h = elim (in_cons u j (v ∷ vs) h) [
  | inl first ↦ right u (subst (Contains (j ∷ vs)) (sym first) (in_head j vs))
  | inr later ↦ elim (in_cons u v vs later) [
    | inl one ↦ right u (in_tail u j vs (subst (Contains vs) (sym one) m))
    | inr more ↦ right u (in_tail u j vs more)
  ]
]
