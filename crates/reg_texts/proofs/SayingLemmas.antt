-- The order of statements, and the derived comparisons of the program's statements, which agree with it.
use Rattle.std.proofs.Common.{◌≡◌, ◌↔◌, ◌&&◌, Bool, true, false, List, map, Option, Some, None, refl, ap, sym, subst}
use Rattle.std.specs.Bool.{beq}
use Rattle.std.specs.Cmp.{IsTotalOrder, on_total, then_total, bool_cmp_total, booleans_Decides}
use Rattle.std.specs.Cmp.Lexicographic.{slice_cmp, options_total}
use Rattle.std.specs.List.{Contains, dedup}
use Rattle.std.specs.List.Sorted.{IsSorted, IsPermutation}
use Rattle.std.specs.Option.{option_cmp, option_eq}
use Rattle.std.specs.Ordering.{nat_cmp, bool_cmp, ordering_then}
use Rattle.std.specs.Str.{bytes_eq}
use Rattle.std.specs.declared.cmp.Ordering.{Ordering}
use Rattle.std.specs.declared.cmp.Ordering.TheVariants.{Equal}
use Rattle.std.proofs.lemmas.Bool.{and_from, and_parts}
use Rattle.std.proofs.lemmas.Cmp.{nat_list_cmp_total}
use Rattle.std.proofs.lemmas.List.Sorted.{Contains-permutation, IsPermutation-sym, IsPermutation-map}
use Rattle.std.proofs.lemmas.Slice.Eq.{bytes_eq-Decides}
use Rattle.reg_op.specs.Set.{IsAntisymmetric, Ascends}
use Rattle.reg_op.proofs.OpLemmas.{bytes_exact, both_equal}
use Rattle.reg_report.specs.Conflicts.{KeyBytes, key_cmp}
use Rattle.reg_report.proofs.ConflictLemmas.{key_total, key_exact}
use Rattle.reg_report.specs.declared.key.KeyText.{KeyText}
use Rattle.reg_report.specs.Keys.{key_bytes, text_cmp}
use Rattle.reg_texts.specs.declared.saying.Saying.{Saying}
use Rattle.reg_texts.specs.Said.{Said, said_cmp, by_bytes, said}
use Rattle.reg_texts.specs.Texts.{IsInOrder}
use Rattle.reg_texts.proofs.OrderLemmas.{dedup_ascends, same_items}

pub said_total : IsTotalOrder said_cmp
said_total =
    then_total (on_total (λ (s : Said). s.key) key_total)
    (then_total (on_total (λ (s : Said). s.text) nat_list_cmp_total) (then_total (on_total (λ (s : Said). s.valid) bool_cmp_total) (on_total (λ (s : Said). s.by) (options_total key_total))))

bool_exact : (a b : Bool) → bool_cmp a b ≡ Equal → a ≡ b
bool_exact true true e = refl
bool_exact false false e = refl
bool_exact true false e = cc
bool_exact false true e = cc

by_exact : (x y : Option KeyBytes) → option_cmp key_cmp x y ≡ Equal → x ≡ y
by_exact None None e = refl
by_exact (Some k) (Some l) e = ap Some (key_exact k l e)
by_exact None (Some l) e = cc
by_exact (Some k) None e = cc

said_exact : IsAntisymmetric said_cmp
said_exact a b e =
    let k = both_equal (key_cmp a.key b.key) _ e in
    let t = both_equal (slice_cmp nat_cmp a.text b.text) _ k.1 in
    let s = both_equal (bool_cmp a.valid b.valid) _ t.1 in
    let key : a.key ≡ b.key = key_exact _ _ k.0 in
    let text : a.text ≡ b.text = bytes_exact _ _ t.0 in
    let valid : a.valid ≡ b.valid = bool_exact _ _ s.0 in
    let by : a.by ≡ b.by = by_exact _ _ s.1 in
    λ j. record { key = key j; text = text j; valid = valid j; by = by j }

-- ---- the derived comparisons of `Saying`

abbrev saying_cmp : Saying → Saying → Ordering
saying_cmp a b =
    ordering_then (text_cmp a.key b.key)
    (ordering_then (slice_cmp nat_cmp a.text.now b.text.now) (ordering_then (bool_cmp a.valid b.valid) (option_cmp text_cmp a.by b.by)))

abbrev key_eq : KeyText → KeyText → Bool
key_eq a b = bytes_eq a.authority.now b.authority.now && bytes_eq a.code.now b.code.now

abbrev saying_eq : Saying → Saying → Bool
saying_eq a b = key_eq a.key b.key && (bytes_eq a.text.now b.text.now && (beq a.valid b.valid && option_eq key_eq a.by b.by))

by_cmp : (x y : Option KeyText) → option_cmp text_cmp x y ≡ option_cmp key_cmp (by_bytes x) (by_bytes y)
by_cmp None None = refl
by_cmp None (Some l) = refl
by_cmp (Some k) None = refl
by_cmp (Some k) (Some l) = refl

cmp_is : (a b : Saying) → saying_cmp a b ≡ said_cmp (said a) (said b)
cmp_is a b = ap (λ o. ordering_then (text_cmp a.key b.key) (ordering_then (slice_cmp nat_cmp a.text.now b.text.now) (ordering_then (bool_cmp a.valid b.valid) o))) (by_cmp a.by b.by)

same_key : (a b : KeyText) → key_eq a b ≡ true → key_bytes a ≡ key_bytes b
same_key a b h =
    let p = and_parts _ _ h in
    let authority = (bytes_eq-Decides a.authority.now b.authority.now).0 p.0 in
    let code = (bytes_eq-Decides a.code.now b.code.now).0 p.1 in
    λ j. record { authority = authority j; code = code j }

same_key_back : (a b : KeyText) → key_bytes a ≡ key_bytes b → key_eq a b ≡ true
same_key_back a b e =
    and_from _ _ ((bytes_eq-Decides a.authority.now b.authority.now).1 (ap (λ (k : KeyBytes). k.authority) e)) ((bytes_eq-Decides a.code.now b.code.now).1 (ap (λ (k : KeyBytes). k.code) e))

one_some : (k l : KeyBytes) → ◌≡◌ {A = Option KeyBytes} (Some k) (Some l) → k ≡ l
one_some k l e = cc

no_some : (k : KeyBytes) → ◌≡◌ {A = Option KeyBytes} None (Some k) → ⊥
no_some k e = cc

same_by : (x y : Option KeyText) → option_eq key_eq x y ≡ true → by_bytes x ≡ by_bytes y
same_by None None h = refl
same_by None (Some l) h = cc
same_by (Some k) None h = cc
same_by (Some k) (Some l) h = ap Some (same_key k l h)

same_by_back : (x y : Option KeyText) → by_bytes x ≡ by_bytes y → option_eq key_eq x y ≡ true
same_by_back None None e = refl
same_by_back None (Some l) e = absurd (no_some _ e)
same_by_back (Some k) None e = absurd (no_some _ (sym e))
same_by_back (Some k) (Some l) e = same_key_back k l (one_some _ _ e)

eq_exact : (a b : Saying) → (saying_eq a b ≡ true) ↔ (said a ≡ said b)
eq_exact a b = (
  λ h.
      let p = and_parts _ _ h in
      let q = and_parts _ _ p.1 in
      let r = and_parts _ _ q.1 in
      let key = same_key a.key b.key p.0 in
      let text = (bytes_eq-Decides a.text.now b.text.now).0 q.0 in
      let valid = (booleans_Decides a.valid b.valid).0 r.0 in
      let by = same_by a.by b.by r.1 in
      λ j. record { key = key j; text = text j; valid = valid j; by = by j },
  λ e. and_from _ _ (same_key_back a.key b.key (ap (λ (s : Said). s.key) e))
      (and_from _ _ ((bytes_eq-Decides a.text.now b.text.now).1 (ap (λ (s : Said). s.text) e))
      (and_from _ _ ((booleans_Decides a.valid b.valid).1 (ap (λ (s : Said). s.valid) e)) (same_by_back a.by b.by (ap (λ (s : Said). s.by) e)))),
)

-- ---- sorting, and removing repeats

pub in_order : (xs ys zs : List Saying) → IsPermutation xs ys → IsSorted saying_cmp ys → zs ≡ dedup saying_eq ys → IsInOrder (map said xs) (map said zs)
in_order xs ys zs same sorted distinct = record {
  ascend = subst (λ l. Ascends said_cmp (map said l)) (sym distinct)
      (dedup_ascends said_total said_exact said saying_eq eq_exact ys (subst (λ R. IsSorted R ys) (λ j x y. cmp_is x y j) sorted));
  same = λ s. (
    λ h. Contains-permutation (map said ys) (map said xs) s (IsPermutation-map said ys xs (IsPermutation-sym xs ys same)) ((same_items said_total said_exact said saying_eq eq_exact ys s).0 (subst (λ l. Contains (map said l) s) distinct h)),
    λ h. subst (λ l. Contains (map said l) s) (sym distinct) ((same_items said_total said_exact said saying_eq eq_exact ys s).1 (Contains-permutation (map said xs) (map said ys) s (IsPermutation-map said xs ys same) h)),
  );
}
