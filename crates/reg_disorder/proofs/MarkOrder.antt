-- The order of marks, and the derived comparisons of the program's marks, which agree with it.
use Rattle.std.proofs.Common.{◌≡◌, ◌↔◌, ℕ, ◌+◌, ◌&&◌, Bool, true, false, IsTrue, List, [], ◌∷◌, map, length, get_or, zero, suc, Option, Some, None, Result, Ok, Err, refl, ap, sym, ◌∙◌, subst, arith}
use Rattle.std.specs.Prelude.{is_ok}
use Rattle.std.specs.Bool.{beq}
use Rattle.std.specs.Cmp.{IsTotalOrder, on_total, then_total, bool_cmp_total, booleans_Decides, tied_itself}
use Rattle.std.specs.Cmp.Lexicographic.{options_total}
use Rattle.std.specs.List.{Contains, dedup}
use Rattle.std.specs.List.Sorted.{IsSorted, IsSortedBy, IsPermutation, IsBinarySearchResult, IsSearchInRange}
use Rattle.std.specs.Option.{option_cmp, option_eq}
use Rattle.std.specs.Ordering.{bool_cmp, ordering_then, is_lt, is_eq, eq_by_cmp}
use Rattle.std.specs.Str.{bytes_eq}
use Rattle.std.specs.declared.cmp.Ordering.{Ordering}
use Rattle.std.specs.declared.cmp.Ordering.TheVariants.{Equal}
use Rattle.std.proofs.lemmas.Bool.{true≢false, and_from, and_parts}
use Rattle.std.proofs.lemmas.List.{get_or-map, length-map}
use Rattle.std.proofs.lemmas.List.Sorted.{IsPermutation-map, ranks_by, searchable_from_sorted}
use Rattle.std.proofs.lemmas.Slice.Eq.{bytes_eq-Decides}
use Rattle.reg_op.specs.Set as set
use Rattle.reg_op.specs.Set.{IsAntisymmetric, Ascends, contains-items, contains-from_list}
use Rattle.reg_op.proofs.OpLemmas.{both_equal}
use Rattle.reg_op.proofs.SetLemmas.{items_climb, climbing_ascends}
use Rattle.reg_report.specs.Conflicts.{KeyBytes, key_cmp}
use Rattle.reg_report.proofs.ConflictLemmas.{key_total, key_exact, member_of_any, any_of_member, from_map}
use Rattle.reg_report.proofs.FoundLemmas.{absent}
use Rattle.reg_report.proofs.SortLemmas.{sorted_items}
use Rattle.reg_report.specs.declared.key.KeyText.{KeyText}
use Rattle.reg_report.specs.Keys.{key_bytes, text_cmp}
use Rattle.reg_disorder.specs.declared.mark.Mark.{Mark as MadeMark}
use Rattle.reg_disorder.specs.Marks.{Mark, mark_cmp, by_bytes, mark_seen}
use Rattle.reg_disorder.proofs.ListLemmas.{sorted_map, dedup_map, exact_of}

pub mark_total : IsTotalOrder mark_cmp
mark_total =
    then_total (on_total (λ (m : Mark). m.key) key_total)
    (then_total (on_total (λ (m : Mark). m.live) bool_cmp_total) (then_total (on_total (λ (m : Mark). m.superseded) bool_cmp_total) (on_total (λ (m : Mark). m.by) (options_total key_total))))

bool_exact : (a b : Bool) → bool_cmp a b ≡ Equal → a ≡ b
bool_exact true true e = refl
bool_exact false false e = refl
bool_exact true false e = cc
bool_exact false true e = cc

by_exact : (x y : Option KeyBytes) → option_cmp key_cmp x y ≡ Equal → x ≡ y
by_exact None None e = refl
by_exact (Some k) (Some l) e = ap Some (key_exact k l e)
by_exact None (Some l) e = cc
by_exact (Some k) None e = cc

pub mark_exact : IsAntisymmetric mark_cmp
mark_exact a b e =
    let k = both_equal (key_cmp a.key b.key) _ e in
    let l = both_equal (bool_cmp a.live b.live) _ k.1 in
    let s = both_equal (bool_cmp a.superseded b.superseded) _ l.1 in
    let key : a.key ≡ b.key = key_exact _ _ k.0 in
    let live : a.live ≡ b.live = bool_exact _ _ l.0 in
    let superseded : a.superseded ≡ b.superseded = bool_exact _ _ s.0 in
    let by : a.by ≡ b.by = by_exact _ _ s.1 in
    λ j. record { key = key j; live = live j; superseded = superseded j; by = by j }

-- ---- the derived comparisons of `Mark`

abbrev made_cmp : MadeMark → MadeMark → Ordering
made_cmp a b =
    ordering_then (text_cmp a.key b.key)
    (ordering_then (bool_cmp a.live b.live) (ordering_then (bool_cmp a.superseded b.superseded) (option_cmp text_cmp a.by b.by)))

abbrev key_eq : KeyText → KeyText → Bool
key_eq a b = bytes_eq a.authority.now b.authority.now && bytes_eq a.code.now b.code.now

abbrev made_eq : MadeMark → MadeMark → Bool
made_eq a b = key_eq a.key b.key && (beq a.live b.live && (beq a.superseded b.superseded && option_eq key_eq a.by b.by))

by_cmp : (x y : Option KeyText) → option_cmp text_cmp x y ≡ option_cmp key_cmp (by_bytes x) (by_bytes y)
by_cmp None None = refl
by_cmp None (Some l) = refl
by_cmp (Some k) None = refl
by_cmp (Some k) (Some l) = refl

cmp_is : (a b : MadeMark) → made_cmp a b ≡ mark_cmp (mark_seen a) (mark_seen b)
cmp_is a b = ap (λ o. ordering_then (text_cmp a.key b.key) (ordering_then (bool_cmp a.live b.live) (ordering_then (bool_cmp a.superseded b.superseded) o))) (by_cmp a.by b.by)

same_key : (a b : KeyText) → key_eq a b ≡ true → key_bytes a ≡ key_bytes b
same_key a b h =
    let p = and_parts _ _ h in
    let authority = (bytes_eq-Decides a.authority.now b.authority.now).0 p.0 in
    let code = (bytes_eq-Decides a.code.now b.code.now).0 p.1 in
    λ j. record { authority = authority j; code = code j }

same_key_back : (a b : KeyText) → key_bytes a ≡ key_bytes b → key_eq a b ≡ true
same_key_back a b e =
    and_from _ _ ((bytes_eq-Decides a.authority.now b.authority.now).1 (ap (λ (k : KeyBytes). k.authority) e)) ((bytes_eq-Decides a.code.now b.code.now).1 (ap (λ (k : KeyBytes). k.code) e))

one_some : (k l : KeyBytes) → ◌≡◌ {A = Option KeyBytes} (Some k) (Some l) → k ≡ l
one_some k l e = cc

no_some : (k : KeyBytes) → ◌≡◌ {A = Option KeyBytes} None (Some k) → ⊥
no_some k e = cc

same_by : (x y : Option KeyText) → option_eq key_eq x y ≡ true → by_bytes x ≡ by_bytes y
same_by None None h = refl
same_by None (Some l) h = cc
same_by (Some k) None h = cc
same_by (Some k) (Some l) h = ap Some (same_key k l h)

same_by_back : (x y : Option KeyText) → by_bytes x ≡ by_bytes y → option_eq key_eq x y ≡ true
same_by_back None None e = refl
same_by_back None (Some l) e = absurd (no_some _ e)
same_by_back (Some k) None e = absurd (no_some _ (sym e))
same_by_back (Some k) (Some l) e = same_key_back k l (one_some _ _ e)

eq_exact : (a b : MadeMark) → (made_eq a b ≡ true) ↔ (mark_seen a ≡ mark_seen b)
eq_exact a b = (
  λ h.
      let p = and_parts _ _ h in
      let q = and_parts _ _ p.1 in
      let r = and_parts _ _ q.1 in
      let key = same_key a.key b.key p.0 in
      let live = (booleans_Decides a.live b.live).0 q.0 in
      let superseded = (booleans_Decides a.superseded b.superseded).0 r.0 in
      let by = same_by a.by b.by r.1 in
      λ j. record { key = key j; live = live j; superseded = superseded j; by = by j },
  λ e. and_from _ _ (same_key_back a.key b.key (ap (λ (m : Mark). m.key) e))
      (and_from _ _ ((booleans_Decides a.live b.live).1 (ap (λ (m : Mark). m.live) e))
      (and_from _ _ ((booleans_Decides a.superseded b.superseded).1 (ap (λ (m : Mark). m.superseded) e)) (same_by_back a.by b.by (ap (λ (m : Mark). m.by) e)))),
)

same_truth : (a b : Bool) (P : Type 0) → (a ≡ true) ↔ P → (b ≡ true) ↔ P → a ≡ b
same_truth true true P h k = refl
same_truth true false P h k = absurd (true≢false (sym (k.1 (h.0 refl))))
same_truth false true P h k = absurd (true≢false (sym (h.1 (k.0 refl))))
same_truth false false P h k = refl

eq_is : (a b : MadeMark) → made_eq a b ≡ is_eq (mark_cmp (mark_seen a) (mark_seen b))
eq_is a b = same_truth _ _ _ (eq_exact a b) (exact_of mark_total mark_exact (mark_seen a) (mark_seen b))

-- ---- marks in order, each once

pub in_order : (xs ys zs : List MadeMark) → IsPermutation xs ys → IsSorted made_cmp ys → zs ≡ dedup made_eq ys → map mark_seen zs ≡ set.items (set.from_list {R = mark_cmp} (map mark_seen xs))
in_order xs ys zs same sorted distinct =
    sorted_items mark_total mark_exact (λ a b. is_eq (mark_cmp a b)) (exact_of mark_total mark_exact) (map mark_seen xs) (map mark_seen ys) (map mark_seen zs)
    (IsPermutation-map mark_seen xs ys same)
    (sorted_map mark_seen (λ a b. is_lt (mark_cmp a b)) ys (subst (λ R. IsSorted R ys) (λ j x y. cmp_is x y j) sorted))
    (ap (map mark_seen) (distinct ∙ (λ j. dedup (λ a b. eq_is a b j) ys)) ∙ dedup_map mark_seen (λ a b. is_eq (mark_cmp a b)) ys)

pub items_ascend : (xs : List Mark) → Ascends mark_cmp (set.items (set.from_list {R = mark_cmp} xs))
items_ascend xs = climbing_ascends mark_cmp (set.items (set.from_list {R = mark_cmp} xs)) (items_climb mark_cmp (set.from_list {R = mark_cmp} xs))

pub in_items : (xs : List Mark) (m : Mark) → Contains (set.items (set.from_list {R = mark_cmp} xs)) m ↔ Contains xs m
in_items xs m = (
  λ h.
      let s = set.from_list {R = mark_cmp} xs in
      let there = any_of_member (eq_by_cmp mark_cmp m) (set.items s) m h (ap is_eq (tied_itself mark_total m)) in
      let f = member_of_any (eq_by_cmp mark_cmp m) xs (sym (contains-from_list mark_total xs m) ∙ contains-items s m ∙ there) in
      subst (Contains xs) (sym ((exact_of mark_total mark_exact m f.0).0 f.2)) f.1,
  λ h.
      let s = set.from_list {R = mark_cmp} xs in
      let f = member_of_any (eq_by_cmp mark_cmp m) (set.items s) (sym (contains-items s m) ∙ contains-from_list mark_total xs m ∙ any_of_member (eq_by_cmp mark_cmp m) xs m h (ap is_eq (tied_itself mark_total m))) in
      subst (Contains (set.items s)) (sym ((exact_of mark_total mark_exact m f.0).0 f.2)) f.1,
)

-- ---- a binary search

marks_sorted : (ms : List MadeMark) → Ascends mark_cmp (map mark_seen ms) → IsSortedBy (λ (a b : MadeMark). is_lt (mark_cmp (mark_seen a) (mark_seen b))) ms
marks_sorted [] up k d low h = absurd (omega (arith, h))
marks_sorted (r ∷ []) up k d low h = absurd (omega (arith, h))
marks_sorted (r ∷ q ∷ rs) up zero d low h = (ranks_by mark_total (λ (m : Mark). m)).one_way (mark_seen r) (mark_seen q) (ap is_lt up.0)
marks_sorted (r ∷ q ∷ rs) up (suc k) d low h =
    let e : suc k + 1 ≡ suc (k + 1) = omega arith in
    subst (λ m. is_lt (mark_cmp (mark_seen (get_or (r ∷ q ∷ rs) m d)) (mark_seen (get_or (q ∷ rs) k d))) ≡ false) (sym e) (marks_sorted (q ∷ rs) up.1 k d (omega arith) (omega (arith, h)))

pub among_marks : (ms : List MadeMark) (x : MadeMark) (r : Result ℕ ℕ) (t : Bool) → t ≡ is_ok r → Ascends mark_cmp (map mark_seen ms) → IsSearchInRange r (length ms) → IsBinarySearchResult (λ y. made_cmp y x) ms r → IsTrue t ↔ Contains (map mark_seen ms) (mark_seen x)
among_marks ms x (Ok at) t e up bound found = (
  λ _. (at, omega (arith, bound, length-map ms mark_seen), get_or-map mark_seen ms at x (mark_seen x) bound ∙ mark_exact (mark_seen (get_or ms at x)) (mark_seen x) (sym (cmp_is (get_or ms at x) x) ∙ found x)),
  λ _. e,
)
among_marks ms x (Err p) t e up bound found = (
  λ (is : t ≡ true). absurd (true≢false (sym is ∙ e)),
  λ (h : Contains (map mark_seen ms) (mark_seen x)).
      let m = from_map mark_seen ms (mark_seen x) h in
      let point = subst (λ ord. IsBinarySearchResult ord ms (Err p)) (λ j y. cmp_is y x j) found (searchable_from_sorted mark_total mark_seen ms (mark_seen x) (marks_sorted ms up)) in
      absurd (absent (λ y. mark_cmp (mark_seen y) (mark_seen x)) ms p point m.0 m.1 (ap (λ z. mark_cmp z (mark_seen x)) (sym m.2) ∙ tied_itself mark_total (mark_seen x))),
)
