-- The search for entries from which a chain of supersessions leads to a valid one: what it found, and that it ends.
use Rattle.std.proofs.Common.{◌≡◌, ◌≢◌, ◌↔◌, ◌⊎◌, ℕ, ◌+◌, ◌<◌, Bool, true, false, not, ◌||◌, cond, List, [], ◌∷◌, ◌++◌, map, filter, length, Some, IsTrue, refl, sym, ap, ◌∙◌, subst, inl, inr, arith}
use Rattle.std.proofs.lemmas.Bool.{true≢false, or_cases, or_left, or_right, false_from_ne_true}
use Rattle.std.proofs.lemmas.List.{length-append, length-map}
use Rattle.std.proofs.lemmas.List.Elements.{Contains-append_left, Contains-append_right, Contains-append_cases, Contains-push, Contains-push_cases}
use Rattle.std.proofs.lemmas.List.Sorted.{Contains-permutation, IsPermutation-sym}
use Rattle.std.proofs.lemmas.List.Sums.{sum_by-cons}
use Rattle.std.specs.List.Sorted.{IsPermutation}
use Rattle.std.specs.List.{Contains, list_any, count_by}
use Rattle.std.specs.Cmp.{tied_itself}
use Rattle.std.specs.Ordering.{is_eq}
use Rattle.reg_op.specs.Ids.{Id, id_cmp, is_same}
use Rattle.reg_op.specs.Rows.{Row}
use Rattle.reg_op.specs.declared.status.Status.TheVariants.{Valid, Superseded}
use Rattle.reg_op.proofs.OpLemmas.{id_total, is_same_exact}
use Rattle.reg_report.proofs.ConflictLemmas.{none_in, in_cons, in_head, in_tail, in_map, from_map}
use Rattle.reg_disorder.specs.declared.link.OlderLink.{OlderLink}
use Rattle.reg_disorder.specs.Disorders.{IsValid, IsSupersededBy, LeadsToValid, IsDangling}
use Rattle.reg_disorder.specs.Heirs.{link_to, is_of, AreLinks, AddsValid, AreValid, IdSet, has_id, Visits, AddsFirst, AreFirst, HasHeir, HaveHeirs}

-- ---- valid entries

pub none_valid : AreValid [] []
none_valid e = (λ h. absurd (none_in e h), λ v. absurd (none_in v.row v.there))

pub valid_more : (rs : List Row) (r : Row) (old new : List Id) → AddsValid r old new → AreValid rs old → AreValid (rs ++ r ∷ []) new
valid_more rs r old new adds are e = (λ h. to_row adds h, λ v. from_row adds v)
  where
    wider : IsValid rs e → IsValid (rs ++ r ∷ []) e
    wider v = record { row = v.row; there = Contains-append_left rs (r ∷ []) v.row v.there; is = v.is; valid = v.valid }

    to_row : AddsValid r old new → Contains new e → IsValid (rs ++ r ∷ []) e
    to_row (inl (valid, same)) h = elim (Contains-push_cases old r.entry e (subst (λ l. Contains l e) same h)) [
      | inl early ↦ wider ((are e).0 early)
      | inr last ↦ record { row = r; there = Contains-push rs r; is = last; valid = valid }
    ]
    to_row (inr (other, same)) h = wider ((are e).0 (subst (λ l. Contains l e) same h))

    early_one : (v : IsValid (rs ++ r ∷ []) e) → Contains rs v.row → IsValid rs e
    early_one v early = record { row = v.row; there = early; is = v.is; valid = v.valid }

    from_row : AddsValid r old new → IsValid (rs ++ r ∷ []) e → Contains new e
    from_row (inl (valid, same)) v = subst (λ l. Contains l e) (sym same) (elim (Contains-push_cases rs r v.row v.there) [
      | inl early ↦ Contains-append_left old (r.entry ∷ []) e ((are e).1 (early_one v early))
      | inr last ↦ subst (Contains (old ++ r.entry ∷ [])) (ap (λ (q : Row). q.entry) last ∙ v.is) (Contains-push old r.entry)
    ])
    from_row (inr (other, same)) v = subst (λ l. Contains l e) (sym same) (elim (Contains-push_cases rs r v.row v.there) [
      | inl early ↦ (are e).1 (early_one v early)
      | inr last ↦ absurd (other (ap (λ (q : Row). q.status) last ∙ v.valid))
    ])

pub valid_sorted : (rs : List Row) (ids sorted : List Id) → IsPermutation ids sorted → AreValid rs ids → AreValid rs sorted
valid_sorted rs ids sorted p are e = (λ h. (are e).0 (Contains-permutation sorted ids e (IsPermutation-sym ids sorted p) h), λ v. Contains-permutation ids sorted e p ((are e).1 v))

-- ---- what valid entries supersede

pub none_first : (valid : List Id) → AreFirst valid [] []
none_first valid e = (λ h. absurd (none_in e h), λ (x, there, is, v). absurd (none_in x there))

pub first_more : (valid : List Id) (links : List OlderLink) (x : OlderLink) (old new : List Id) → AddsFirst valid x old new → AreFirst valid links old → AreFirst valid (links ++ x ∷ []) new
first_more valid links x old new (inl (v, same)) are e = (
  λ h. elim (Contains-push_cases old x.old e (subst (λ l. Contains l e) same h)) [
    | inl early ↦ let f = (are e).0 early in (f.0, Contains-append_left links (x ∷ []) f.0 f.1, f.2, f.3)
    | inr last ↦ (x, Contains-push links x, last, v)
  ],
  λ (y, there, is, w). subst (λ l. Contains l e) (sym same) (elim (Contains-push_cases links x y there) [
    | inl early ↦ Contains-append_left old (x.old ∷ []) e ((are e).1 (y, early, is, w))
    | inr last ↦ subst (Contains (old ++ x.old ∷ [])) (ap (λ (z : OlderLink). z.old) last ∙ is) (Contains-push old x.old)
  ]),
)
first_more valid links x old new (inr (never, same)) are e = (
  λ h. let f = (are e).0 (subst (λ l. Contains l e) same h) in (f.0, Contains-append_left links (x ∷ []) f.0 f.1, f.2, f.3),
  λ (y, there, is, w). subst (λ l. Contains l e) (sym same) (elim (Contains-push_cases links x y there) [
    | inl early ↦ (are e).1 (y, early, is, w)
    | inr last ↦ absurd (never (subst (λ (z : OlderLink). Contains valid z.newer) (sym last) w))
  ]),
)

-- ---- filters

in_filter : {X : Type 0} (p : X → Bool) (xs : List X) (x : X) → Contains (filter p xs) x → Contains xs x × (p x ≡ true)
in_filter p [] x c = absurd (none_in x c)
in_filter p (y ∷ ys) x c = elim (p y) as (λ b. p y ≡ b → Contains (cond b (y ∷ filter p ys) (filter p ys)) x → Contains (y ∷ ys) x × (p x ≡ true)) [
  | true ↦ λ t c. elim (in_cons x y (filter p ys) c) [
    | inl same ↦ (subst (Contains (y ∷ ys)) (sym same) (in_head y ys), ap p same ∙ t)
    | inr later ↦ let m = in_filter p ys x later in (in_tail x y ys m.0, m.1)
  ]
  | false ↦ λ _ c. let m = in_filter p ys x c in (in_tail x y ys m.0, m.1)
] refl c

to_filter : {X : Type 0} (p : X → Bool) (xs : List X) (x : X) → Contains xs x → p x ≡ true → Contains (filter p xs) x
to_filter p [] x c e = absurd (none_in x c)
to_filter p (y ∷ ys) x c e = elim (p y) as (λ b. p y ≡ b → Contains (cond b (y ∷ filter p ys) (filter p ys)) x) [
  | true ↦ λ _. elim (in_cons x y ys c) [
    | inl same ↦ subst (Contains (y ∷ filter p ys)) (sym same) (in_head y (filter p ys))
    | inr later ↦ in_tail x y (filter p ys) (to_filter p ys x later e)
  ]
  | false ↦ λ n. elim (in_cons x y ys c) [
    | inl same ↦ absurd (true≢false (sym e ∙ ap p same ∙ n))
    | inr later ↦ to_filter p ys x later e
  ]
] refl

-- ---- the search

-- the entry is found, or to do
abbrev pub Known : List Id → IdSet → Id → Type 0
Known todo found e = (has_id found e ≡ true) ⊎ Contains todo e

-- a chain leads from each known entry to a valid one; what valid entries supersede is known, and so is what a found one supersedes
pub record Searches (rs : List Row) (todo : List Id) (found : IdSet) : Type 0 where
  pub due : (e : Id) → Contains todo e → HasHeir rs e
  pub sound : (e : Id) → has_id found e ≡ true → HasHeir rs e
  pub begun : (old newer : Id) → IsSupersededBy rs old newer → IsValid rs newer → Known todo found old
  pub closed : (old newer : Id) → has_id found newer ≡ true → IsSupersededBy rs old newer → Known todo found old

none_found : (found : IdSet) → found.keys ≡ [] → (e : Id) → has_id found e ≡ true → ⊥
none_found found empty e h = true≢false (sym h ∙ ap (list_any (λ k. is_eq (id_cmp e k))) empty)

pub search_begins : (rs : List Row) (valid : List Id) (links : List OlderLink) (todo : List Id) (found : IdSet) → AreLinks rs links → AreValid rs valid → AreFirst valid links todo → found.keys ≡ [] → Searches rs todo found
search_begins rs valid links todo found are is_valid first empty = record {
  due = λ e h. let f = (first e).0 h in subst (HasHeir rs) f.2 (f.0.newer, [], ((are f.0).0 f.1, (is_valid f.0.newer).0 f.3));
  sound = λ e h. absurd (none_found found empty e h);
  begun = λ old newer is v. inr ((first old).1 (link_to old newer, (are (link_to old newer)).1 is, refl, (is_valid newer).1 v));
  closed = λ old newer h _. absurd (none_found found empty newer h);
}

same_itself : (e : Id) → is_same e e ≡ true
same_itself e = ap is_eq (tied_itself id_total e)

abbrev olds_of : List OlderLink → Id → List Id
olds_of links id = map (λ (x : OlderLink). x.old) (filter (is_of id) links)

module _ (rs : List Row) (links : List OlderLink) (are : AreLinks rs links) (todo rest : List Id) (id : Id) (popped : todo ≡ rest ++ id ∷ []) (found : IdSet) (s : Searches rs todo found) where
  in_todo : (e : Id) → Contains rest e → Contains todo e
  in_todo e h = subst (λ l. Contains l e) (sym popped) (Contains-append_left rest (id ∷ []) e h)

  heir : HasHeir rs id
  heir = s.due id (subst (λ l. Contains l id) (sym popped) (Contains-push rest id))

  pub visited : (later : List Id) (next : IdSet) → Visits links id rest found later next → Searches rs later next
  visited later next (inl (was, same, keeps)) = record {
    due = λ e h. s.due e (in_todo e (subst (λ l. Contains l e) same h));
    sound = λ e h. s.sound e (sym (keeps e) ∙ h);
    begun = λ old newer is v. known old (s.begun old newer is v);
    closed = λ old newer h is. known old (s.closed old newer (sym (keeps newer) ∙ h) is);
  }
    where
      known : (e : Id) → Known todo found e → Known later next e
      known e (inl h) = inl (keeps e ∙ h)
      known e (inr h) = elim (Contains-push_cases rest id e (subst (λ l. Contains l e) popped h)) [
        | inl early ↦ inr (subst (λ l. Contains l e) (sym same) early)
        | inr last ↦ inl (keeps e ∙ subst (λ i. has_id found i ≡ true) last was)
      ]
  visited later next (inr (fresh, adds, marks)) = record {
    due = due;
    sound = λ e h. elim (or_cases (is_same id e) (has_id found e) (sym (marks e) ∙ h)) [
      | inl same ↦ subst (HasHeir rs) (is_same_exact id e same) heir
      | inr before ↦ s.sound e before
    ];
    begun = λ old newer is v. known old (s.begun old newer is v);
    closed = λ old newer h is. elim (or_cases (is_same id newer) (has_id found newer) (sym (marks newer) ∙ h)) [
      | inl same ↦ inr (subst (λ l. Contains l old) (sym adds) (Contains-append_right rest (olds_of links id) old (superseded old newer same is)))
      | inr before ↦ known old (s.closed old newer before is)
    ];
  }
    where
      due : (e : Id) → Contains later e → HasHeir rs e
      due e h = elim (Contains-append_cases rest (olds_of links id) e (subst (λ l. Contains l e) adds h)) [
        | inl early ↦ s.due e (in_todo e early)
        | inr new ↦
            let f = from_map (λ (x : OlderLink). x.old) (filter (is_of id) links) e new in
            let m = in_filter (is_of id) links f.0 f.1 in
            let step : IsSupersededBy rs f.0.old f.0.newer = (are f.0).0 m.0 in
            subst (HasHeir rs) (sym f.2) (f.0.newer, heir.0 ∷ heir.1, (step, subst (λ i. LeadsToValid rs i (heir.0 ∷ heir.1)) (is_same_exact id f.0.newer m.1) heir.2))
      ]

      known : (e : Id) → Known todo found e → Known later next e
      known e (inl h) = inl (marks e ∙ or_right (is_same id e) _ h)
      known e (inr h) = elim (Contains-push_cases rest id e (subst (λ l. Contains l e) popped h)) [
        | inl early ↦ inr (subst (λ l. Contains l e) (sym adds) (Contains-append_left rest (olds_of links id) e early))
        | inr last ↦ inl (marks e ∙ or_left _ _ (subst (λ i. is_same id i ≡ true) last (same_itself id)))
      ]

      superseded : (old newer : Id) → is_same id newer ≡ true → IsSupersededBy rs old newer → Contains (olds_of links id) old
      superseded old newer same is = in_map (λ (x : OlderLink). x.old) (filter (is_of id) links) (link_to old newer) (to_filter (is_of id) links (link_to old newer) ((are (link_to old newer)).1 is) same)

pub search_ends : (rs : List Row) (todo : List Id) (found : IdSet) → todo ≡ [] → Searches rs todo found → HaveHeirs rs found
search_ends rs todo found none s e = (s.sound e, λ h. reaches h.1 h.0 e h.2)
  where
    done : (i : Id) → Known todo found i → has_id found i ≡ true
    done i (inl h) = h
    done i (inr h) = absurd (none_in i (subst (λ l. Contains l i) none h))

    reaches : (chain : List Id) (n i : Id) → LeadsToValid rs i (n ∷ chain) → has_id found i ≡ true
    reaches [] n i (is, v) = done i (s.begun i n is v)
    reaches (m ∷ chain) n i (is, leads) = done i (s.closed i n (reaches chain m n leads) is)

-- ---- that it ends

-- the links whose newer entry is not found yet, and the entries to do
abbrev pub left : List OlderLink → List Id → IdSet → ℕ
left links todo found = count_by (λ (x : OlderLink). not (has_id found x.newer)) links + length todo

pub less_left : (links : List OlderLink) (todo rest : List Id) (id : Id) → todo ≡ rest ++ id ∷ [] → (found next : IdSet) (later : List Id) → Visits links id rest found later next → left links later next < left links todo found
less_left links todo rest id popped found next later (inl (was, same, keeps)) =
    omega (arith, same_count links, ap length same, ap length popped, length-append rest (id ∷ []))
  where
    same_count : (xs : List OlderLink) → count_by (λ (x : OlderLink). not (has_id next x.newer)) xs ≡ count_by (λ (x : OlderLink). not (has_id found x.newer)) xs
    same_count [] = refl
    same_count (x ∷ xs) =
        sum_by-cons (λ (y : OlderLink). cond (not (has_id next y.newer)) 1 0) x xs
        ∙ (λ j. cond (not (keeps x.newer j)) 1 0 + same_count xs j)
        ∙ sym (sum_by-cons (λ (y : OlderLink). cond (not (has_id found y.newer)) 1 0) x xs)
less_left links todo rest id popped found next later (inr (fresh, adds, marks)) =
    omega (arith, fewer links, ap length adds, length-append rest (map (λ (x : OlderLink). x.old) (filter (is_of id) links)), length-map (filter (is_of id) links) (λ (x : OlderLink). x.old), ap length popped, length-append rest (id ∷ []))
  where
    not_yet : (i : Id) → is_same id i ≡ true → has_id found i ≡ false
    not_yet i same = subst (λ j. has_id found j ≡ false) (is_same_exact id i same) fresh

    one : (x : OlderLink) (a f : Bool) (m n l : ℕ) → (a ≡ true → f ≡ false) → m + l ≡ n → cond (not (a || f)) 1 0 + m + cond a (1 + l) l ≡ cond (not f) 1 0 + n
    one x true true m n l apart h = absurd (true≢false (apart refl))
    one x true false m n l apart h = omega (arith, h)
    one x false true m n l apart h = omega (arith, h)
    one x false false m n l apart h = omega (arith, h)

    long : (a : Bool) (x : OlderLink) (xs : List OlderLink) → length (cond a (x ∷ xs) xs) ≡ cond a (1 + length xs) (length xs)
    long true x xs = omega arith
    long false x xs = refl

    fewer : (xs : List OlderLink) → count_by (λ (x : OlderLink). not (has_id next x.newer)) xs + length (filter (is_of id) xs) ≡ count_by (λ (x : OlderLink). not (has_id found x.newer)) xs
    fewer [] = refl
    fewer (x ∷ xs) =
        ap (λ n. n + length (filter (is_of id) (x ∷ xs))) (sum_by-cons (λ (y : OlderLink). cond (not (has_id next y.newer)) 1 0) x xs)
        ∙ (λ j. cond (not (marks x.newer j)) 1 0 + count_by (λ (y : OlderLink). not (has_id next y.newer)) xs + long (is_of id x) x (filter (is_of id) xs) j)
        ∙ one x (is_same id x.newer) (has_id found x.newer) _ _ (length (filter (is_of id) xs)) (not_yet x.newer) (fewer xs)
        ∙ sym (sum_by-cons (λ (y : OlderLink). cond (not (has_id found y.newer)) 1 0) x xs)

-- ---- a superseded entry that was not found

pub heir_is_not : (rs : List Row) (found : IdSet) (r : Row) (b : Bool) → HaveHeirs rs found → has_id found r.entry ≡ true → b ≡ false → IsTrue b ↔ IsDangling rs r
heir_is_not rs found r b has there fails = (λ h. absurd (true≢false (sym h ∙ fails)), λ d. let heir = (has r.entry).0 there in absurd (d.lost (heir.0 ∷ heir.1) heir.2))

pub dangling_is : (rs : List Row) (valid : List Id) (found : IdSet) (r : Row) (among b : Bool) → AreValid rs valid → HaveHeirs rs found → IsTrue among ↔ Contains valid r.entry → r.status ≡ Some Superseded
    → has_id found r.entry ≡ false → b ≡ not among → IsTrue b ↔ IsDangling rs r
dangling_is rs valid found r among b are has told superseded none e = (
  λ h. record { superseded = superseded; lost = lost (sym e ∙ h) },
  λ d. e ∙ ap not (false_from_ne_true among (λ h. d.lost [] ((are r.entry).0 (told.0 h)))),
)
  where
    lost : not among ≡ true → (chain : List Id) → ¬ (LeadsToValid rs r.entry chain)
    lost h [] v = true≢false (sym h ∙ ap not (told.1 ((are r.entry).1 v)))
    lost h (n ∷ chain) leads = true≢false (sym ((has r.entry).1 (n, chain, leads)) ∙ none)
