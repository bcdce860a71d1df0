-- The keys in conflict among sorted entries, found one by one.
use Rattle.std.proofs.Common.{◌≡◌, ℕ, ◌+◌, ◌<◌, ◌≤◌, nat_eq, Bool, true, false, not, ◌&&◌, cond, List, [], ◌∷◌, ◌++◌, map, length, get_or, take, drop, zero, suc, append_assoc, append-nil, ◌↔◌, refl, sym, ap, ◌∙◌, subst, inl, inr, ◌⊎◌, arith}
use Rattle.std.proofs.lemmas.Bool.{true≢false, or_cases, or_left, or_right, false_from_ne_true, eq-eqb, not-false, true_from_ne_false}
use Rattle.std.proofs.lemmas.List.{get_or-drop, get_or-take, length-take, length-drop, take-append-drop}
use Rattle.std.proofs.lemmas.List.Elements.{Contains-append_left, Contains-append_right, Contains-append_cases}
use Rattle.std.proofs.lemmas.List.Sums.{prefix_len-le-length, prefix_len_passes, prefix_len_stops}
use Rattle.std.proofs.lemmas.List.Sorted.{ranks_by, sorted_far}
use Rattle.std.proofs.lemmas.Cmp.{nat_list_cmp_total}
use Rattle.std.specs.List.{Contains, list_any, prefix_len}
use Rattle.std.specs.List.Sorted.{IsSorted}
use Rattle.std.specs.Cmp.{IsTotalOrder, IsStrictWeakOrder, then_total, on_total, Equal-is, tied_itself}
use Rattle.std.specs.Cmp.Lexicographic.{slice_cmp, pointwise}
use Rattle.std.specs.Ordering.{ordering_reverse, is_lt, is_eq, ordering_then, nat_cmp}
use Rattle.std.specs.declared.cmp.Ordering.TheVariants.{Less, Equal, Greater}
use Rattle.reg_op.specs.Set as set
use Rattle.reg_op.specs.Set.{IsAntisymmetric, Ascends, contains-from_list}
use Rattle.reg_op.specs.Ids.{Id, Ids, id_cmp, is_same}
use Rattle.reg_op.proofs.SetLemmas.{less}
use Rattle.reg_op.proofs.OpLemmas.{bytes_exact, id_total, is_same_exact, both_equal}
use Rattle.reg_op.proofs.Defining.{same_bytes}
use Rattle.reg_report.specs.declared.contender.Contender.{Contender}
use Rattle.reg_report.specs.Conflicts.{KeyBytes, key_cmp, Contested}
use Rattle.reg_report.specs.Contenders.{key_of, contender_cmp, has_same_key, has_other_text, conflict_at, Differ, Enters, Tells}

-- ---- the order of keys

pub key_total : IsTotalOrder key_cmp
key_total = then_total (on_total (λ k. k.authority) nat_list_cmp_total) (on_total (λ k. k.code) nat_list_cmp_total)

pub key_exact : IsAntisymmetric key_cmp
key_exact a b e =
    let p = both_equal (slice_cmp nat_cmp a.authority b.authority) _ e in
    let authority : a.authority ≡ b.authority = bytes_exact _ _ p.0 in
    let code : a.code ≡ b.code = bytes_exact _ _ p.1 in
    λ j. record { authority = authority j; code = code j }

pub by_key : IsStrictWeakOrder (λ a b. is_lt (contender_cmp a b))
by_key = ranks_by key_total key_of

same_key : (a b : Contender) → has_same_key a b ≡ true → key_of a ≡ key_of b
same_key a b h = key_exact (key_of a) (key_of b) ((Equal-is (contender_cmp a b)).0 h)

same_key_back : (a b : Contender) → key_of a ≡ key_of b → has_same_key a b ≡ true
same_key_back a b e = subst (λ k. is_eq (key_cmp (key_of a) k) ≡ true) e (ap is_eq (tied_itself key_total (key_of a)))

-- a key that is neither after another nor equal to it is before it
before_of : (a b : KeyBytes) → is_lt (key_cmp b a) ≡ false → (a ≡ b → ⊥) → key_cmp a b ≡ Less
before_of a b h n =
    elim (key_cmp a b) as (λ r. key_cmp a b ≡ r → r ≡ Less) [
      | Less ↦ λ e. refl
      | Equal ↦ λ e. absurd (n (key_exact a b e))
      | Greater ↦ λ e. absurd (true≢false (sym (ap is_lt (key_total.antisymm b a ∙ ap ordering_reverse e)) ∙ h))
    ] refl

-- ---- elements of lists

pub none_in : {X : Type 0} (x : X) → Contains [] x → ⊥
none_in x h = absurd (omega (arith, h.1))

pub in_cons : {X : Type 0} (x y : X) (ys : List X) → Contains (y ∷ ys) x → (x ≡ y) ⊎ Contains ys x
in_cons x y ys (zero, lt, e) = inl (sym e)
in_cons x y ys (suc k, lt, e) = inr (k, omega arith, e)

pub in_head : {X : Type 0} (x : X) (ys : List X) → Contains (x ∷ ys) x
in_head x ys = (0, omega arith, refl)

pub in_tail : {X : Type 0} (x y : X) (ys : List X) → Contains ys x → Contains (y ∷ ys) x
in_tail x y ys c = Contains-append_right (y ∷ []) ys x c

pub in_map : {X Y : Type 0} (f : X → Y) (xs : List X) (x : X) → Contains xs x → Contains (map f xs) (f x)
in_map f [] x c = absurd (none_in x c)
in_map f (y ∷ ys) x c = elim (in_cons x y ys c) [
  | inl e ↦ subst (λ z. Contains (map f (y ∷ ys)) (f z)) (sym e) (in_head (f y) (map f ys))
  | inr d ↦ in_tail (f x) (f y) (map f ys) (in_map f ys x d)
]

pub from_map : {X Y : Type 0} (f : X → Y) (xs : List X) (y : Y) → Contains (map f xs) y → (x : X) × Contains xs x × (y ≡ f x)
from_map f [] y c = absurd (none_in y c)
from_map f (x ∷ xs) y c = elim (in_cons y (f x) (map f xs) c) [
  | inl e ↦ (x, in_head x xs, e)
  | inr d ↦ let r = from_map f xs y d in (r.0, in_tail r.0 x xs r.1, r.2)
]

-- ---- the entries of one key, and those of later keys

-- each entry has the key
abbrev AllOf : KeyBytes → List Contender → Type 0
AllOf k cs = (c : Contender) → Contains cs c → key_of c ≡ k

-- each entry has a later key
abbrev AllPast : KeyBytes → List Contender → Type 0
AllPast k cs = (c : Contender) → Contains cs c → key_cmp k (key_of c) ≡ Less

never_below : (k : KeyBytes) → key_cmp k k ≡ Less → ⊥
never_below k h = true≢false (sym (ap is_lt h) ∙ ap is_lt (tied_itself key_total k))

module _ (k : KeyBytes) (front back : List Contender) (own : AllOf k front) (past : AllPast k back) where
  in_front : (c : Contender) → Contains (front ++ back) c → key_of c ≡ k → Contains front c
  in_front c h e = elim (Contains-append_cases front back c h) [
    | inl a ↦ a
    | inr b ↦ absurd (never_below k (subst (λ l. key_cmp k l ≡ Less) e (past c b)))
  ]

  in_back : (c : Contender) (l : KeyBytes) → Contains (front ++ back) c → key_of c ≡ l → key_cmp k l ≡ Less → Contains back c
  in_back c l h e lt = elim (Contains-append_cases front back c h) [
    | inl a ↦ absurd (never_below k (subst (λ m. key_cmp k m ≡ Less) (sym e ∙ own c a) lt))
    | inr b ↦ b
  ]

  wider : (l : KeyBytes) → Differ back l → Differ (front ++ back) l
  wider l d = record {
    one = d.one;
    other = d.other;
    has_one = Contains-append_right front back d.one d.has_one;
    has_other = Contains-append_right front back d.other d.has_other;
    key_of_one = d.key_of_one;
    key_of_other = d.key_of_other;
    differ = d.differ;
  }

  past_key : (l : KeyBytes) → Differ back l → key_cmp k l ≡ Less
  past_key l d = subst (λ m. key_cmp k m ≡ Less) d.key_of_one (past d.one d.has_one)

  -- a later key has the same entries in the whole list
  entries_back : (c : Contested) → key_cmp k c.key ≡ Less → (i : Id) → (Enters back c.key i → Enters (front ++ back) c.key i) × (Enters (front ++ back) c.key i → Enters back c.key i)
  entries_back c lt i = (
    λ e. record { one = e.one; has_one = Contains-append_right front back e.one e.has_one; key_of_one = e.key_of_one; is = e.is },
    λ e. record { one = e.one; has_one = in_back e.one c.key e.has_one e.key_of_one lt; key_of_one = e.key_of_one; is = e.is },
  )

  -- a key with different texts in the whole list is k, or has different texts in the back
  where_differ : (l : KeyBytes) → Differ (front ++ back) l → ((l ≡ k) × Differ front k) ⊎ Differ back l
  where_differ l d = elim (Contains-append_cases front back d.one d.has_one) [
    | inl a ↦
        let e : l ≡ k = sym d.key_of_one ∙ own d.one a in
        inl (
          e,
          record {
            one = d.one;
            other = d.other;
            has_one = a;
            has_other = in_front d.other d.has_other (d.key_of_other ∙ e);
            key_of_one = own d.one a;
            key_of_other = d.key_of_other ∙ e;
            differ = d.differ;
          },
        )
    | inr b ↦
        let lt : key_cmp k l ≡ Less = subst (λ m. key_cmp k m ≡ Less) d.key_of_one (past d.one b) in
        inr (record {
          one = d.one;
          other = d.other;
          has_one = b;
          has_other = in_back d.other l d.has_other d.key_of_other lt;
          key_of_one = d.key_of_one;
          key_of_other = d.key_of_other;
          differ = d.differ;
        })
  ]

  -- if the entries of k have one text, k is not in conflict
  skipped : (ks : List Contested) → (Differ front k → ⊥) → Tells back ks → Tells (front ++ back) ks
  skipped ks none t = record {
    ascend = t.ascend;
    sound = λ c h. wider c.key (t.sound c h);
    complete = λ l d. elim (where_differ l d) [
      | inl p ↦ absurd (none p.1)
      | inr b ↦ t.complete l b
    ];
    entries = λ c h.
        let r = t.entries c h in
        let around = entries_back c (past_key c.key (t.sound c h)) in
        (r.0, r.1, λ i. (λ m. (around i).0 ((r.2 i).0 m), λ e. (r.2 i).1 ((around i).1 e)));
  }

  abbrev EntriesTold : Contested → Type 0
  EntriesTold c = (ids : Ids) × (c.entries ≡ set.items ids) × ((i : Id) → (set.contains ids i ≡ true) ↔ Enters (front ++ back) c.key i)

  climbs : (ks : List Contested) → Ascends key_cmp (map (λ (c : Contested). c.key) ks) → ((c : Contested) → Contains ks c → key_cmp k c.key ≡ Less) → Ascends key_cmp (k ∷ map (λ (c : Contested). c.key) ks)
  climbs [] a lt = tt
  climbs (c ∷ ks) a lt = (lt c (in_head c ks), a)

  in_whole : (i : Id) → Enters front k i → Enters (front ++ back) k i
  in_whole i e = record { one = e.one; has_one = Contains-append_left front back e.one e.has_one; key_of_one = e.key_of_one; is = e.is }

  in_own : (i : Id) → Enters (front ++ back) k i → Enters front k i
  in_own i e = record { one = e.one; has_one = in_front e.one e.has_one e.key_of_one; key_of_one = e.key_of_one; is = e.is }

  whole_differ : Differ front k → Differ (front ++ back) k
  whole_differ d = record {
    one = d.one;
    other = d.other;
    has_one = Contains-append_left front back d.one d.has_one;
    has_other = Contains-append_left front back d.other d.has_other;
    key_of_one = d.key_of_one;
    key_of_other = d.key_of_other;
    differ = d.differ;
  }

  -- if the entries of k have different texts, k is the first key in conflict
  told : (ids : Ids) (ks : List Contested) → ((i : Id) → (set.contains ids i ≡ true) ↔ Enters front k i) → Differ front k → Tells back ks → Tells (front ++ back) (record { key = k; entries = set.items ids } ∷ ks)
  told ids ks are d t = record {
    ascend = climbs ks t.ascend (λ c h. past_key c.key (t.sound c h));
    sound = λ c h. elim (in_cons c (record { key = k; entries = set.items ids }) ks h) [
      | inl e ↦ subst (Differ (front ++ back)) (sym (ap (λ (x : Contested). x.key) e)) (whole_differ d)
      | inr b ↦ wider c.key (t.sound c b)
    ];
    complete = λ l d. elim (where_differ l d) [
      | inl p ↦ subst (Contains (map (λ (c : Contested). c.key) (record { key = k; entries = set.items ids } ∷ ks))) (sym p.0) (in_head k (map (λ (c : Contested). c.key) ks))
      | inr b ↦ in_tail l k (map (λ (c : Contested). c.key) ks) (t.complete l b)
    ];
    entries = λ c h. elim (in_cons c (record { key = k; entries = set.items ids }) ks h) [
      | inl e ↦ subst EntriesTold (sym e) (ids, refl, λ i. (λ m. in_whole i ((are i).0 m), λ w. (are i).1 (in_own i w)))
      | inr b ↦
          let r = t.entries c b in
          let around = entries_back c (past_key c.key (t.sound c b)) in
          (r.0, r.1, λ i. (λ m. (around i).0 ((r.2 i).0 m), λ e. (r.2 i).1 ((around i).1 e)))
    ];
  }

-- ---- texts and entries of one key

itself : (a : List ℕ) → pointwise nat_eq a a ≡ true
itself [] = refl
itself (x ∷ xs) = ap (λ b. b && pointwise nat_eq xs xs) (eq-eqb x x refl) ∙ itself xs

differ_from : (a b : Contender) → has_other_text a b ≡ true → a.definition ≡ b.definition → ⊥
differ_from a b h e = true≢false (sym h ∙ ap not (subst (λ t. pointwise nat_eq a.definition t ≡ true) e (itself a.definition)))

one_text : (a b : Contender) → has_other_text a b ≡ false → a.definition ≡ b.definition
one_text a b h = same_bytes a.definition b.definition (not-false (pointwise nat_eq a.definition b.definition) h)

pub member_of_any : {X : Type 0} (t : X → Bool) (xs : List X) → list_any t xs ≡ true → (x : X) × Contains xs x × (t x ≡ true)
member_of_any t [] h = absurd (true≢false (sym h))
member_of_any t (x ∷ xs) h = elim (or_cases (t x) (list_any t xs) h) [
  | inl e ↦ (x, in_head x xs, e)
  | inr e ↦ let r = member_of_any t xs e in (r.0, in_tail r.0 x xs r.1, r.2)
]

pub any_of_member : {X : Type 0} (t : X → Bool) (xs : List X) (x : X) → Contains xs x → t x ≡ true → list_any t xs ≡ true
any_of_member t [] x c h = absurd (none_in x c)
any_of_member t (y ∷ ys) x c h = elim (in_cons x y ys c) [
  | inl e ↦ or_left _ _ (subst (λ z. t z ≡ true) e h)
  | inr d ↦ or_right (t y) _ (any_of_member t ys x d h)
]

abbrev entry_of : Contender → Id
entry_of c = c.entry

-- the set of the entries that have the key
entries_told : (k : KeyBytes) (cs : List Contender) → AllOf k cs → (i : Id) → (set.contains (set.from_list {R = id_cmp} (map entry_of cs)) i ≡ true) ↔ Enters cs k i
entries_told k cs own i = (
  λ h.
      let m = member_of_any (is_same i) (map entry_of cs) (sym (contains-from_list id_total (map entry_of cs) i) ∙ h) in
      let r = from_map entry_of cs m.0 m.1 in
      record { one = r.0; has_one = r.1; key_of_one = own r.0 r.1; is = sym (is_same_exact i m.0 m.2 ∙ r.2) },
  λ e.
      contains-from_list id_total (map entry_of cs) i
      ∙ any_of_member (is_same i) (map entry_of cs) e.one.entry (in_map entry_of cs e.one e.has_one)
      (subst (λ j. is_same i j ≡ true) (sym e.is) (ap is_eq (tied_itself id_total i))),
)

module _ (first : Contender) (others : List Contender) (own : AllOf (key_of first) (first ∷ others)) where
  some_differ : list_any (has_other_text first) others ≡ true → Differ (first ∷ others) (key_of first)
  some_differ h =
      let m = member_of_any (has_other_text first) others h in
      record {
        one = first;
        other = m.0;
        has_one = in_head first others;
        has_other = in_tail m.0 first others m.1;
        key_of_one = refl;
        key_of_other = own m.0 (in_tail m.0 first others m.1);
        differ = differ_from first m.0 m.2;
      }

  as_first : list_any (has_other_text first) others ≡ false → (c : Contender) → Contains (first ∷ others) c → first.definition ≡ c.definition
  as_first h c m = elim (in_cons c first others m) [
    | inl e ↦ ap (λ (x : Contender). x.definition) (sym e)
    | inr d ↦ one_text first c (false_from_ne_true _ (λ t. true≢false (sym (any_of_member (has_other_text first) others c d t) ∙ h)))
  ]

  none_differ : list_any (has_other_text first) others ≡ false → Differ (first ∷ others) (key_of first) → ⊥
  none_differ h d = d.differ (sym (as_first h d.one d.has_one) ∙ as_first h d.other d.has_other)

  -- the keys in conflict of the entries of one key, and of later keys
  pub key_told : (back : List Contender) (ks : List Contested) → AllPast (key_of first) back → Tells back ks → Tells ((first ∷ others) ++ back) (conflict_at first others ++ ks)
  key_told back ks past t =
      elim (list_any (has_other_text first) others) as (λ b. list_any (has_other_text first) others ≡ b
      → Tells ((first ∷ others) ++ back) (cond b (record { key = key_of first; entries = set.items (set.from_list {R = id_cmp} (map entry_of (first ∷ others))) } ∷ []) [] ++ ks)) [
        | true ↦ λ h. told (key_of first) (first ∷ others) back own past (set.from_list {R = id_cmp} (map entry_of (first ∷ others))) ks (entries_told (key_of first) (first ∷ others) own) (some_differ h) t
        | false ↦ λ h. skipped (key_of first) (first ∷ others) back own past ks (none_differ h) t
      ] refl

-- ---- where the entries of a key end in a sorted list

pub nothing_told : Tells [] []
nothing_told = record {
  ascend = tt;
  sound = λ c h. absurd (none_in c h);
  complete = λ k d. absurd (none_in d.one d.has_one);
  entries = λ c h. absurd (none_in c h);
}

-- no entry is before an earlier one
abbrev pub Far : List Contender → Type 0
Far cs = (i j : ℕ) (d : Contender) → i ≤ j → j < length cs → is_lt (contender_cmp (get_or cs j d) (get_or cs i d)) ≡ false

pub far_sorted : (cs : List Contender) → IsSorted contender_cmp cs → Far cs
far_sorted cs up = sorted_far (λ a b. is_lt (contender_cmp a b)) by_key cs up

module _ (first : Contender) (others : List Contender) (n : ℕ) (n_is : n ≡ prefix_len (has_same_key first) others) (far : Far (first ∷ others)) where
  short : n ≤ length others
  short = let h = prefix_len-le-length (has_same_key first) others in omega arith

  pub own_front : AllOf (key_of first) (first ∷ take n others)
  own_front c h = elim (in_cons c first (take n others) h) [
    | inl e ↦ ap key_of e
    | inr m ↦
        let within : m.0 < n = omega (arith, m.1, length-take n others) in
        let passes : has_same_key first (get_or others m.0 c) ≡ true = prefix_len_passes (has_same_key first) others m.0 c (omega (arith, within, n_is)) in
        sym (same_key first c (subst (λ (x : Contender). has_same_key first x ≡ true) (sym (get_or-take n others m.0 c within) ∙ m.2) passes))
  ]

  pub past_back : AllPast (key_of first) (drop n others)
  past_back c m =
      let there : n + m.0 < length others = omega (arith, m.1, length-drop n others) in
      let here : get_or others (n + m.0) c ≡ c = sym (get_or-drop n others m.0 c) ∙ m.2 in
      let stops : has_same_key first (get_or others n c) ≡ false = subst (λ k. has_same_key first (get_or others k c) ≡ false) (sym n_is) (prefix_len_stops (has_same_key first) others c (omega (arith, there, n_is))) in
      let next : Contender = get_or others n c in
      let not_after : is_lt (contender_cmp next first) ≡ false = far 0 (suc n) c (omega arith) (omega (arith, there)) in
      let before : key_cmp (key_of first) (key_of next) ≡ Less = before_of (key_of first) (key_of next) not_after (λ e. true≢false (sym (same_key_back first next e) ∙ stops)) in
      let later : is_lt (contender_cmp c next) ≡ false = subst (λ (x : Contender). is_lt (contender_cmp x next) ≡ false) here (far (suc n) (suc (n + m.0)) c (omega arith) (omega (arith, there))) in
      less (key_cmp (key_of first) (key_of c)) (true_from_ne_false _ (λ f. true≢false (sym (ap is_lt before) ∙ by_key.chain first c next f later)))

  pub far_back : Far (drop n others)
  far_back i j d h k =
      subst (λ (x : Contender). is_lt (contender_cmp x (get_or (drop n others) i d)) ≡ false) (sym (get_or-drop n others j d))
      (subst (λ (x : Contender). is_lt (contender_cmp (get_or others (n + j) d) x) ≡ false) (sym (get_or-drop n others i d))
      (far (suc (n + i)) (suc (n + j)) d (omega arith) (omega (arith, k, length-drop n others))))

-- `done`, followed by the keys in conflict of the rest, has the keys in conflict of all
abbrev pub Completes : List Contender → List Contender → List Contested → Type 0
Completes all rest done = (more : List Contested) → Tells rest more → Tells all (done ++ more)

pub told_more : (all rest others : List Contender) (first : Contender) (n : ℕ) (old new : List Contested) → rest ≡ first ∷ others → Far rest → n ≡ prefix_len (has_same_key first) others
    → new ≡ old ++ conflict_at first (take n others) → Completes all rest old → Completes all (drop n others) new
told_more all rest others first n old new e far is h done more t =
    let far_all : Far (first ∷ others) = subst Far e far in
    subst (Tells all) (sym (append_assoc old (conflict_at first (take n others)) more) ∙ ap (λ l. l ++ more) (sym h))
    (done (conflict_at first (take n others) ++ more)
    (subst (λ l. Tells l (conflict_at first (take n others) ++ more)) (ap (λ l. first ∷ l) (take-append-drop n others) ∙ sym e)
    (key_told first (take n others) (own_front first others n is far_all) (drop n others) more (past_back first others n is far_all) t)))

pub told_far : (rest others : List Contender) (first : Contender) (n : ℕ) → rest ≡ first ∷ others → n ≡ prefix_len (has_same_key first) others → Far rest → Far (drop n others)
told_far rest others first n e is far = far_back first others n is (subst Far e far)

pub all_told : (all rest : List Contender) (done out : List Contested) → length rest ≡ 0 → out ≡ done → Completes all rest done → Tells all out
all_told all [] done out e h complete = subst (Tells all) (append-nil done ∙ sym h) (complete [] nothing_told)
all_told all (c ∷ cs) done out e h complete = absurd (omega arith)
