-- Entries with the same text, and keys in conflict, in lists that are sorted.
use Rattle.std.proofs.Common.{◌≡◌, ℕ, ◌+◌, ◌<◌, zero, suc, Bool, true, false, ◌||◌, cond, filter, List, [], ◌∷◌, map, length, get_or, Err, arith, refl, sym, ap, ◌∙◌, subst, inl, inr}
use Rattle.std.proofs.lemmas.Bool.{true≢false, or_left, or_right, false_from_ne_true}
use Rattle.std.proofs.lemmas.Cmp.{nat_list_cmp_total}
use Rattle.std.proofs.lemmas.List.Sorted.{ranks_by, searchable_from_sorted}
use Rattle.std.specs.Borrow.{Bor}
use Rattle.std.specs.List.{list_any, HoldsAt}
use Rattle.std.specs.List.Sorted.{IsSortedBy, IsStableBy, IsPartitionPoint, IsBinarySearchResult}
use Rattle.std.specs.Cmp.{IsTotalOrder, IsStrictWeakOrder, Equal-is, then_total, on_total, tied_itself}
use Rattle.std.specs.Cmp.Lexicographic.{slice_cmp}
use Rattle.std.specs.Ordering.{nat_cmp, is_lt, is_eq, ordering_then, ordering_reverse}
use Rattle.std.specs.declared.cmp.Ordering.{Ordering}
use Rattle.std.specs.declared.cmp.Ordering.TheVariants.{Less, Equal, Greater}
use Rattle.reg_op.proofs.PointLemmas.{lt_or_ge}
use Rattle.reg_report.specs.declared.conflict.Conflict.{Conflict}
use Rattle.reg_report.specs.Conflicts.{KeyBytes, bytes_of, key_cmp, Contested}
use Rattle.reg_report.specs.Contenders.{conflict_seen}
use Rattle.reg_report.proofs.ConflictLemmas.{key_total}
use Rattle.reg_report.proofs.WindowLemmas.{tied_is}
use Rattle.reg_page.specs.declared.described.Described.{Described}
use Rattle.reg_page.specs.Descriptions.{at}
use Rattle.reg_page.specs.Page.{is_in_conflict, AscendByKey}
use Rattle.reg_page.specs.SameTexts.{text_cmp, has_same_text}

-- ---- entries by text

pub text_total : IsTotalOrder text_cmp
text_total = then_total (on_total (λ (t : Described). t.system.text.items) nat_list_cmp_total) (on_total (λ (t : Described). bytes_of t.key) key_total)

pub by_texts : IsStrictWeakOrder (λ (a b : Bor Described). is_lt (text_cmp a.now b.now))
by_texts = ranks_by text_total (λ (t : Bor Described). t.now)

reversed : (o : Ordering) → is_eq (ordering_reverse o) ≡ is_eq o
reversed Less = refl
reversed Equal = refl
reversed Greater = refl

even : (a b : Described) → has_same_text a b ≡ has_same_text b a
even a b = sym (ap is_eq (text_total.antisymm b a) ∙ reversed (text_cmp a b))

pub at_filter : (p : Described → Bool) (xs : List (Bor Described)) → at (filter (λ (t : Bor Described). p t.now) xs) ≡ filter p (at xs)
at_filter p [] = refl
at_filter p (x ∷ xs) =
    elim (p x.now) as (λ b. at (cond b (x ∷ filter (λ (t : Bor Described). p t.now) xs) (filter (λ (t : Bor Described). p t.now) xs)) ≡ cond b (x.now ∷ filter p (at xs)) (filter p (at xs))) [
      | true ↦ ap (λ l. x.now ∷ l) (at_filter p xs)
      | false ↦ at_filter p xs
    ]

-- a reference to a description
abbrev behind : Described → Bor Described
behind t = record { ref_ptr = (0, 0); now = t }

-- a stable sort by text keeps the entries with one text in their order
pub kept : (old new : List (Bor Described)) → IsStableBy (λ (a b : Bor Described). is_lt (text_cmp a.now b.now)) old new → (t : Described) → filter (has_same_text t) (at new) ≡ filter (has_same_text t) (at old)
kept old new stable t =
    sym (at_filter (has_same_text t) new)
    ∙ ap at
    ((λ j. filter (λ (u : Bor Described). (even t u.now ∙ tied_is text_cmp text_total u.now t) j) new) ∙ stable (behind t)
    ∙ sym (λ j. filter (λ (u : Bor Described). (even t u.now ∙ tied_is text_cmp text_total u.now t) j) old))
    ∙ at_filter (has_same_text t) old

-- ---- keys in conflict

any_at : {X : Type 0} (p : X → Bool) (xs : List X) (i : ℕ) → i < length xs → HoldsAt (λ x. p x ≡ true) xs i → list_any p xs ≡ true
any_at p [] i h holds = absurd (omega (arith, h))
any_at p (x ∷ xs) zero h holds = or_left (p x) (list_any p xs) (holds x)
any_at p (x ∷ xs) (suc i) h holds = or_right (p x) (list_any p xs) (any_at p xs i (omega (arith, h)) holds)

none_any : {X : Type 0} (p : X → Bool) (xs : List X) → ((i : ℕ) (d : X) → i < length xs → p (get_or xs i d) ≡ false) → list_any p xs ≡ false
none_any p [] fails = refl
none_any p (x ∷ xs) fails = rw (fails 0 x (omega arith)) (none_any p xs (λ i d h. fails (suc i) d (omega (arith, h))))

any_map : {X Y : Type 0} (p : Y → Bool) (f : X → Y) (xs : List X) → list_any p (map f xs) ≡ list_any (λ x. p (f x)) xs
any_map p f [] = refl
any_map p f (x ∷ xs) = λ j. p (f x) || any_map p f xs j

sorted : (cs : List Conflict) → AscendByKey cs → IsSortedBy (λ (a b : Conflict). is_lt (key_cmp (conflict_seen a).key (conflict_seen b).key)) cs
sorted [] up k d low h = absurd (omega arith)
sorted (c ∷ []) up k d low h = absurd (omega arith)
sorted (c ∷ e ∷ cs) up zero d low h = (ranks_by key_total (λ (k : KeyBytes). k)).one_way (conflict_seen c).key (conflict_seen e).key (ap is_lt up.0)
sorted (c ∷ e ∷ cs) up (suc k) d low h =
    let g : suc k + 1 ≡ suc (k + 1) = omega arith in
    subst (λ m. is_lt (key_cmp (conflict_seen (get_or (c ∷ e ∷ cs) m d)).key (conflict_seen (get_or (e ∷ cs) k d)).key) ≡ false) (sym g) (sorted (e ∷ cs) up.1 k d (omega arith) (omega arith))

pub key_found : (cs : List Conflict) (t : Described) (i : ℕ) → i < length cs → HoldsAt (λ (c : Conflict). key_cmp (conflict_seen c).key (bytes_of t.key) ≡ Equal) cs i → true ≡ is_in_conflict (map conflict_seen cs) t
key_found cs t i h holds =
    sym (any_map (λ (c : Contested). is_eq (key_cmp c.key (bytes_of t.key))) conflict_seen cs
    ∙ any_at (λ (c : Conflict). is_eq (key_cmp (conflict_seen c).key (bytes_of t.key))) cs i h (λ d. ap is_eq (holds d)))

pub key_absent : (cs : List Conflict) (t : Described) (p : ℕ) → AscendByKey cs → IsBinarySearchResult (λ (c : Conflict). key_cmp (conflict_seen c).key (bytes_of t.key)) cs (Err p) → false ≡ is_in_conflict (map conflict_seen cs) t
key_absent cs t p up searched =
    let k = bytes_of t.key in
    let point = searched (searchable_from_sorted key_total (λ (c : Conflict). (conflict_seen c).key) cs k (sorted cs up)) in
    sym (any_map (λ (c : Contested). is_eq (key_cmp c.key k)) conflict_seen cs
    ∙ none_any (λ (c : Conflict). is_eq (key_cmp (conflict_seen c).key k)) cs (λ i d h. elim (lt_or_ge i p) [
      | inl below ↦ ap is_eq (point.0 i d (omega arith) below)
      | inr above ↦ ap is_eq (point.1 i d above h)
    ]))
