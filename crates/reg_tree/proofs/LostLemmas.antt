-- What the join loses, and the list of what it undoes.
use Rattle.std.proofs.Common.{◌≡◌, ◌↔◌, Bool, true, false, not, ◌&&◌, ◌||◌, List, [], ◌∷◌, ◌++◌, map, refl, sym, ap, ◌∙◌, subst, inl, inr}
use Rattle.std.proofs.lemmas.Bool.{and_parts, or_left, or_right, or_cases, true≢false}
use Rattle.std.proofs.lemmas.Cmp.{nat_list_cmp_total}
use Rattle.std.specs.Prelude.{ℕ, Contains}
use Rattle.std.specs.List.{list_any, AllByRecursion as ByRecursion}
use Rattle.std.specs.List.Sorted.{IsStrictlySortedBy}
use Rattle.std.specs.BTreeSet.{BTreeSet}
use Rattle.std.specs.Cmp.{both_ways, tied_itself, Equal-is}
use Rattle.std.specs.Cmp.Lexicographic.{slice_cmp}
use Rattle.std.specs.Ordering.{nat_cmp, is_eq}
use Rattle.std.specs.declared.cmp.Ordering.TheVariants.{Less}
use Rattle.reg_op.specs.Set.{contains, items}
use Rattle.reg_op.specs.Finite.{any}
use Rattle.reg_op.specs.Ids.{Id}
use Rattle.reg_op.specs.declared.operation.OpBody.{OpBody as Body}
use Rattle.reg_op.specs.declared.operation.OpBody.TheVariants.{Enter, Supersede, Retire}
use Rattle.reg_op.specs.Operations.{Op, Ops}
use Rattle.reg_op.specs.Contents.{Content}
use Rattle.reg_op.specs.Kept.{entering}
use Rattle.reg_op.proofs.OpLemmas.{bytes_exact}
use Rattle.reg_report.specs.Conflicts.{KeyBytes, key_cmp, HasKey}
use Rattle.reg_report.proofs.ConflictLemmas.{none_in, in_cons, in_head, in_tail, in_map, from_map}
use Rattle.reg_report.proofs.ContenderLemmas.{one_key}
use Rattle.reg_tree.specs.Sayings.{Keys, Saying, tells, says, unsays, is_owed, undone}
use Rattle.reg_tree.specs.declared.undone.saying.SayingText.{SayingText}
use Rattle.reg_tree.specs.declared.undone.voice.Voice.{Voice}
use Rattle.reg_tree.specs.Voices.{IsRight, AreRight, AreAllRight, is_key, AreKeyed, AreVoices, IsVoice, AreUndone, saying_cmp, saying_seen, saying_is, has_saying, content_of, is_unsaid, lost_at, lost_in}
use Rattle.reg_tree.proofs.ListLemmas.{any_at, any_has}
use Rattle.reg_tree.proofs.VoiceLemmas.{same_key, key_itself}
use Rattle.reg_tree.proofs.GatheredLemmas.{KeyedIn, pair_cmp, cmp_is, same_saying, saying_itself, in_items, items_in}

-- ---- all that the inputs say and the join loses

never : {X : Type 0} (xs : List X) → list_any (λ _. false) xs ≡ false
never [] = refl
never (x ∷ xs) = never xs

pull : (b : Bool) (w : Content → Op → Bool) (xs : List Content) → list_any (λ x. any (λ o. not b && w x o) x.ops) xs ≡ (not b && list_any (λ x. any (w x) x.ops) xs)
pull true w xs = (λ i. list_any (λ (x : Content). never (items x.ops) i) xs) ∙ never xs
pull false w xs = refl

pub undone_is : (has : Keys KeyBytes) (inputs : List Content) (z : Content) (q : Saying KeyBytes) → list_any (lost_in has inputs z q) inputs ≡ undone has inputs z q
undone_is has inputs z q = pull (says has z q) (λ x o. tells has x.ops q o.body && not (list_any (unsays has q o.id) inputs)) inputs

-- ---- what one operation says, and the join loses

pub unsaid_is : (has : Keys KeyBytes) (vs : List Voice) → AreVoices vs → ((v : Voice) → Contains vs v → AreRight has (content_of v).ops) → (q : Saying KeyBytes) (i : Id) →
    list_any (is_unsaid q i) vs ≡ list_any (unsays has q i) (map content_of vs)
unsaid_is has [] are right q i = refl
unsaid_is has (v ∷ vs) are right q i =
    (λ j. (contains (content_of v).seen i && not ((are v (in_head v vs)).said has (right v (in_head v vs)) q j)) || list_any (is_unsaid q i) vs)
    ∙ ap (λ b. unsays has q i (content_of v) || b) (unsaid_is has vs (λ u h. are u (in_tail u v vs h)) (λ u h. right u (in_tail u v vs h)) q i)

where_said : (s q : Saying KeyBytes) (p : Saying KeyBytes → Bool) (b : Bool) → p s ≡ b → (is_eq (saying_cmp s q) && p q) ≡ (is_eq (saying_cmp s q) && b)
where_said s q p b h = by (is_eq (saying_cmp s q)) refl
  where
    by : (t : Bool) → is_eq (saying_cmp s q) ≡ t → (t && p q) ≡ (t && b)
    by true e = subst (λ v. p v ≡ b) (same_saying s q e) h
    by false e = refl

turned : (a b c : Bool) → (not a && (b && not c)) ≡ (b && (not a && not c))
turned true true c = refl
turned true false c = refl
turned false true c = refl
turned false false c = refl

and_no : (b : Bool) → (b && false) ≡ false
and_no true = refl
and_no false = refl

and_yes : (b : Bool) → (b && true) ≡ b
and_yes true = refl
and_yes false = refl

module _ (has : Keys KeyBytes) (inputs : List Content) (z x : Content) (o : Op) where
  pub says_nothing : ((q : Saying KeyBytes) → tells has x.ops q o.body ≡ false) → (q : Saying KeyBytes) → lost_at has inputs z x q o ≡ false
  says_nothing h q = (λ i. not (says has z q) && (h q i && not (list_any (unsays has q o.id) inputs))) ∙ and_no (not (says has z q))

  module _ (s : Saying KeyBytes) (is : (q : Saying KeyBytes) → tells has x.ops q o.body ≡ is_eq (saying_cmp s q)) where
    one_lost : (b : Bool) → (not (says has z s) && not (list_any (unsays has s o.id) inputs)) ≡ b → (q : Saying KeyBytes) → lost_at has inputs z x q o ≡ (is_eq (saying_cmp s q) && b)
    one_lost b h q =
        (λ i. not (says has z q) && (is q i && not (list_any (unsays has q o.id) inputs)))
        ∙ turned (says has z q) (is_eq (saying_cmp s q)) (list_any (unsays has q o.id) inputs)
        ∙ where_said s q (λ v. not (says has z v) && not (list_any (unsays has v o.id) inputs)) b h

    pub join_says : says has z s ≡ true → (q : Saying KeyBytes) → lost_at has inputs z x q o ≡ false
    join_says h q = one_lost false (ap (λ b. not b && not (list_any (unsays has s o.id) inputs)) h) q ∙ and_no (is_eq (saying_cmp s q))

    pub taken_back : list_any (unsays has s o.id) inputs ≡ true → (q : Saying KeyBytes) → lost_at has inputs z x q o ≡ false
    taken_back h q = one_lost false (ap (λ b. not (says has z s) && not b) h ∙ and_no (not (says has z s))) q ∙ and_no (is_eq (saying_cmp s q))

    pub is_lost : says has z s ≡ false → list_any (unsays has s o.id) inputs ≡ false → (q : Saying KeyBytes) → lost_at has inputs z x q o ≡ is_eq (saying_cmp s q)
    is_lost h k q = one_lost true ((λ i. not (h i) && not (k i))) q ∙ and_yes (is_eq (saying_cmp s q))

-- ---- the keys of texts

-- the test knows no key that is not the text's
abbrev pub IsSound : Keys KeyBytes → Type 0
IsSound has = (text : List ℕ) (k : KeyBytes) → has text k ≡ true → HasKey text k

abbrev pub Finds : Keys KeyBytes → Body → Type 0
Finds has (Enter text) = (k : KeyBytes) → HasKey text k → has text k ≡ true
Finds has (Supersede a b) = Unit {0}
Finds has (Retire e) = Unit {0}

abbrev pub is_text : List ℕ → List ℕ → Bool
is_text a b = is_eq (slice_cmp nat_cmp a b)

abbrev pub with_text : List ℕ → KeyBytes → Keys KeyBytes → Keys KeyBytes
with_text text key has t k = (is_text text t && is_key key k) || has t k

pub record KeysOf (os : List Op) : Type 0 where
  pub has : Keys KeyBytes
  pub sound : IsSound has
  pub finds : (o : Op) → Contains os o → Finds has o.body

wider : (text : List ℕ) (key : KeyBytes) (has : Keys KeyBytes) (b : Body) → Finds has b → Finds (with_text text key has) b
wider text key has (Enter t) f = λ k h. or_right _ _ (f k h)
wider text key has (Supersede a b) f = tt
wider text key has (Retire e) f = tt

keys_with : (os : List Op) (i : Id) (b : Body) (n : List ℕ) → KeyedIn b → KeysOf os → KeysOf (record { id = i; body = b; note = n } ∷ os)
keys_with os i (Enter text) n (key, keyed) ks = record {
  has = with_text text key ks.has;
  sound = λ t k h. elim (or_cases _ _ h) [
    | inl e ↦
        let p = and_parts _ _ e in
        let same : text ≡ t = bytes_exact text t ((Equal-is (slice_cmp nat_cmp text t)).0 p.0) in
        subst (λ u. HasKey u k) same (subst (HasKey text) (same_key key k p.1) keyed)
    | inr e ↦ ks.sound t k e
  ];
  finds = λ o h. elim (in_cons o (record { id = i; body = Enter text; note = n }) os h) [
    | inl e ↦ subst (λ (p : Op). Finds (with_text text key ks.has) p.body) (sym e)
        (λ k g. or_left _ _ ((λ j. is_eq (tied_itself nat_list_cmp_total text j) && is_key key k) ∙ subst (λ v. is_key key v ≡ true) (one_key text key k keyed g) (key_itself key)))
    | inr c ↦ wider text key ks.has o.body (ks.finds o c)
  ];
}
keys_with os i (Supersede a b) n keyed ks = record {
  has = ks.has;
  sound = ks.sound;
  finds = λ o h. elim (in_cons o (record { id = i; body = Supersede a b; note = n }) os h) [
    | inl e ↦ subst (λ (p : Op). Finds ks.has p.body) (sym e) tt
    | inr c ↦ ks.finds o c
  ];
}
keys_with os i (Retire a) n keyed ks = record {
  has = ks.has;
  sound = ks.sound;
  finds = λ o h. elim (in_cons o (record { id = i; body = Retire a; note = n }) os h) [
    | inl e ↦ subst (λ (p : Op). Finds ks.has p.body) (sym e) tt
    | inr c ↦ ks.finds o c
  ];
}

keys_of : (os : List Op) → ((o : Op) → Contains os o → KeyedIn o.body) → KeysOf os
keys_of [] keyed = record { has = λ t k. false; sound = λ t k h. absurd (true≢false (sym h)); finds = λ o h. absurd (none_in o h) }
keys_of (o ∷ os) keyed = keys_with os o.id o.body o.note (keyed o (in_head o os)) (keys_of os (λ p h. keyed p (in_tail p o os h)))

keyed_at : (s : Ops) → AreKeyed s → (i : Id) (b : Body) (n : List ℕ) → contains s (record { id = i; body = b; note = n }) ≡ true → KeyedIn b
keyed_at s keyed i (Enter text) n there = keyed i text n there
keyed_at s keyed i (Supersede a b) n there = tt
keyed_at s keyed i (Retire e) n there = tt

-- ---- the keys of all texts of some contents

pub record KeysOfAll (xs : List Content) : Type 0 where
  pub has : Keys KeyBytes
  pub sound : IsSound has
  pub finds : (x : Content) → Contains xs x → (o : Op) → Contains (items x.ops) o → Finds has o.body

abbrev pub either : Keys KeyBytes → Keys KeyBytes → Keys KeyBytes
either a b t k = a t k || b t k

finds_left : (a b : Keys KeyBytes) (body : Body) → Finds a body → Finds (either a b) body
finds_left a b (Enter t) f = λ k h. or_left _ _ (f k h)
finds_left a b (Supersede x y) f = tt
finds_left a b (Retire e) f = tt

finds_right : (a b : Keys KeyBytes) (body : Body) → Finds b body → Finds (either a b) body
finds_right a b (Enter t) f = λ k h. or_right _ _ (f k h)
finds_right a b (Supersede x y) f = tt
finds_right a b (Retire e) f = tt

keys_of_all : (xs : List Content) → ((x : Content) → Contains xs x → AreKeyed x.ops) → KeysOfAll xs
keys_of_all [] keyed = record { has = λ t k. false; sound = λ t k h. absurd (true≢false (sym h)); finds = λ x h. absurd (none_in x h) }
keys_of_all (x ∷ xs) keyed =
    let one = keys_of (items x.ops) (λ o h. keyed_at x.ops (keyed x (in_head x xs)) o.id o.body o.note (in_items x.ops o h)) in
    let rest = keys_of_all xs (λ y h. keyed y (in_tail y x xs h)) in record {
      has = either one.has rest.has;
      sound = λ t k h. elim (or_cases _ _ h) [ inl e ↦ one.sound t k e | inr e ↦ rest.sound t k e ];
      finds = λ y h o m. elim (in_cons y x xs h) [
        | inl e ↦ finds_left one.has rest.has o.body (one.finds o (subst (λ (v : Content). Contains (items v.ops) o) e m))
        | inr c ↦ finds_right one.has rest.has o.body (rest.finds y c o m)
      ];
    }

right_in : (has : Keys KeyBytes) (s : Ops) → IsSound has → ((o : Op) → Contains (items s) o → Finds has o.body) → AreRight has s
right_in has s sound finds e text note there = λ k. (sound text k, finds (entering e text note) (items_in s (entering e text note) there) k)

-- ---- the list

each_less : (x : SayingText) (xs : List SayingText) → ByRecursion (λ y. pair_cmp x y ≡ Less) xs → ByRecursion (λ k. saying_cmp (saying_seen x) k ≡ Less) (map saying_seen xs)
each_less x [] h = tt
each_less x (y ∷ ys) h = (sym (cmp_is x y) ∙ h.0, each_less x ys h.1)

pub rises : (xs : List SayingText) → IsStrictlySortedBy pair_cmp xs → IsStrictlySortedBy saying_cmp (map saying_seen xs)
unfolding IsStrictlySortedBy
rises [] h = tt
rises (x ∷ xs) h = (each_less x xs h.0, rises xs h.1)

listed : (set : BTreeSet SayingText) (q : Saying KeyBytes) → Contains (map saying_seen set.keys) q ↔ (has_saying set q ≡ true)
listed set q = (
  λ h.
      let r = from_map saying_seen set.keys q h in
      any_at (λ t. is_eq (saying_cmp q (saying_seen t))) set.keys r.0 r.1 (subst (λ v. is_eq (saying_cmp q v) ≡ true) r.2 (ap is_eq (saying_itself q))),
  λ h.
      let r = any_has (λ t. is_eq (saying_cmp q (saying_seen t))) set.keys h in
      subst (Contains (map saying_seen set.keys)) (sym (same_saying q (saying_seen r.0) r.2)) (in_map saying_seen set.keys r.0 r.1),
)

in_voices : (vs : List Voice) (x : Content) → Contains (map content_of vs) x → AreVoices vs → AreKeyed x.ops
in_voices vs x h are = let r = from_map content_of vs x h in subst (λ (v : Content). AreKeyed v.ops) (sym r.2) (are r.0 r.1).keyed

pub list_is : (vs : List Voice) (join : Voice) (set : BTreeSet SayingText) → AreVoices vs → IsVoice join → IsStrictlySortedBy saying_cmp (map saying_seen set.keys) →
    ((has : Keys KeyBytes) → AreRight has (content_of join).ops → ((v : Voice) → Contains vs v → AreRight has (content_of v).ops) → (q : Saying KeyBytes) →
    has_saying set q ≡ list_any (lost_in has (map content_of vs) (content_of join) q) (map content_of vs)) →
    AreUndone (map content_of vs) (content_of join) (map saying_seen set.keys)
list_is vs join set are voice sorted tells = record {
  has = ks.has;
  in_join = in_join;
  in_inputs = in_inputs;
  ascend = sorted;
  each = λ q.
      let is = tells ks.has in_join (λ v h. in_inputs (content_of v) (in_map content_of vs v h)) q ∙ undone_is ks.has (map content_of vs) (content_of join) q in
      (λ h. sym is ∙ (listed set q).0 h, λ h. (listed set q).1 (is ∙ h));
}
  where
    ks : KeysOfAll (content_of join ∷ map content_of vs)
    ks = keys_of_all (content_of join ∷ map content_of vs) (λ x h. elim (in_cons x (content_of join) (map content_of vs) h) [
      | inl e ↦ subst (λ (v : Content). AreKeyed v.ops) (sym e) voice.keyed
      | inr c ↦ in_voices vs x c are
    ])

    in_join : AreRight ks.has (content_of join).ops
    in_join = right_in ks.has (content_of join).ops ks.sound (ks.finds (content_of join) (in_head (content_of join) (map content_of vs)))

    in_inputs : (x : Content) → Contains (map content_of vs) x → AreRight ks.has x.ops
    in_inputs x h = right_in ks.has x.ops ks.sound (ks.finds x (in_tail x (content_of join) (map content_of vs) h))

pub list_found : (all vs : List Voice) (join : Voice) (set : BTreeSet SayingText) (made : List SayingText) (inputs : List Content) (z : Content) → vs ≡ all → AreVoices all → map content_of all ≡ inputs →
    IsVoice join → content_of join ≡ z → made ≡ set.keys → IsStrictlySortedBy pair_cmp set.keys →
    ((has : Keys KeyBytes) → AreAllRight has (join ∷ vs) → (q : Saying KeyBytes) → has_saying set q ≡ list_any (lost_in has (map content_of vs) (content_of join) q) (map content_of vs)) →
    AreUndone inputs z (map saying_seen made)
list_found all vs join set made inputs z same are ins voice is e sorted tells =
    subst (λ (ts : List SayingText). AreUndone inputs z (map saying_seen ts)) (sym e)
    (subst (λ (x : Content). AreUndone inputs x (map saying_seen set.keys)) is
    (subst (λ (xs : List Content). AreUndone xs (content_of join) (map saying_seen set.keys)) (ap (map content_of) same ∙ ins)
    (list_is vs join set (subst AreVoices (sym same) are) voice (rises set.keys sorted)
    (λ has in_join in_vs q. tells has (λ u h. elim (in_cons u join vs h) [
      | inl first ↦ subst (λ (v : Voice). AreRight has (content_of v).ops) (sym first) in_join
      | inr later ↦ in_vs u later
    ]) q))))
