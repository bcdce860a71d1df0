-- What is not in order: as a set, alone, and counted by keys.
use Rattle.std.proofs.Common.{◌≡◌, ◌↔◌, ℕ, zero, suc, ◌+◌, ◌<◌, ◌≤◌, Bool, true, false, List, [], ◌∷◌, map, length, get_or, refl, sym, ap, ◌∙◌, subst, arith}
use Rattle.std.proofs.lemmas.List.Sorted.{IsPermutation-refl}
use Rattle.std.specs.List.{Contains, list_any, dedup}
use Rattle.std.specs.List.Sorted.{IsSorted}
use Rattle.std.specs.Cmp.{IsTotalOrder, Equal-is, tied_itself, both_ways}
use Rattle.std.specs.Ordering.{is_lt, is_eq, eq_by_cmp, ordering_then, ordering_reverse}
use Rattle.std.specs.declared.cmp.Ordering.{Ordering}
use Rattle.std.specs.declared.cmp.Ordering.TheVariants.{Less, Equal, Greater}
use Rattle.reg_op.specs.Set as set
use Rattle.reg_op.specs.Set.{Ascends, contains-from_list, same_set}
use Rattle.reg_op.specs.Ids.{id_cmp}
use Rattle.reg_op.specs.Rows.{Row}
use Rattle.reg_op.proofs.SetLemmas.{items_climb, climbing_ascends}
use Rattle.reg_report.specs.Conflicts.{KeyBytes, key_cmp, HasKey}
use Rattle.reg_report.proofs.ConflictLemmas.{key_total, key_exact, member_of_any, any_of_member}
use Rattle.reg_report.proofs.ContenderLemmas.{one_key}
use Rattle.reg_report.proofs.SortLemmas.{sorted_items}
use Rattle.reg_disorder.specs.declared.disorder.Disorder.{Disorder}
use Rattle.reg_disorder.specs.declared.disorder.Disorder.TheVariants.{Duplicates, Dangling, Withdrawn}
use Rattle.reg_disorder.specs.Disorders.{Keyed, keyed_cmp, IsAmiss, IsListed, AreAmiss, count_keys, how_many, CountsAmiss}
use Rattle.reg_disorder.specs.declared.listed.ListedEntry.{ListedEntry}
use Rattle.reg_disorder.specs.Lists.{key_seen, listed_seen, IsLineOf, AreOf}
use Rattle.reg_disorder.proofs.ListLemmas.{keyed_total, keyed_exact, exact_of}

module _ (way : Disorder) (rs : List Row) where
  pub amiss_are : (ls zs : List Keyed) → AreOf (IsAmiss way rs) rs ls → zs ≡ set.items (set.from_list {R = keyed_cmp} ls) → AreAmiss way rs zs
  amiss_are ls zs of e = record {
    all = set.from_list ls;
    are = e;
    each = λ l. (
      λ h.
          let m = member_of_any (eq_by_cmp keyed_cmp l) ls (sym (contains-from_list keyed_total ls l) ∙ h) in
          let same : m.0 ≡ l = sym ((exact_of keyed_total keyed_exact l m.0).0 m.2) in
          let f = of.each l (subst (Contains ls) same m.1) in
          record { row = f.0; there = f.1; amiss = f.2; key = f.3.key; entry = f.3.entry },
      λ is.
          let f = of.all is.row is.there is.amiss in
          let key : f.0.key ≡ l.key = one_key is.row.definition f.0.key l.key f.2.key is.key in
          let entry : f.0.entry ≡ l.entry = sym f.2.entry ∙ is.entry in
          let same : f.0 ≡ l = λ j. record { key = key j; entry = entry j } in
          contains-from_list keyed_total ls l ∙ any_of_member (eq_by_cmp keyed_cmp l) ls f.0 f.1 ((exact_of keyed_total keyed_exact l f.0).1 (sym same)),
    );
  }

  pub one_list : (ls ms : List Keyed) → AreAmiss way rs ls → AreAmiss way rs ms → ls ≡ ms
  one_list ls ms a b =
      a.are
      ∙ ap set.items (same_set keyed_total keyed_exact a.all b.all (λ l. both_ways _ _ (λ h. (b.each l).1 ((a.each l).0 h)) (λ h. (a.each l).1 ((b.each l).0 h))))
      ∙ sym b.are

  pub one_count : (m n : ℕ) → CountsAmiss way rs m → CountsAmiss way rs n → m ≡ n
  one_count m n a b = a.2 ∙ ap (how_many way) (one_list a.0 b.0 a.1 b.1) ∙ sym b.2

-- ---- the keys of a list that is in order

not_below : (a b : Keyed) → keyed_cmp a b ≡ Less → is_lt (key_cmp b.key a.key) ≡ false
not_below a b h = by (key_cmp a.key b.key) refl
  where
    back : (r : Ordering) → key_cmp a.key b.key ≡ r → is_lt (key_cmp b.key a.key) ≡ is_lt (ordering_reverse r)
    back r e = ap is_lt (key_total.antisymm b.key a.key ∙ ap ordering_reverse e)

    by : (r : Ordering) → key_cmp a.key b.key ≡ r → is_lt (key_cmp b.key a.key) ≡ false
    by Less e = back Less e
    by Equal e = back Equal e
    by Greater e = absurd (let no : Greater ≡ Less = sym (ap (λ r. ordering_then r (id_cmp a.entry b.entry)) e) ∙ h in absurd cc)

keys_sorted : (ls : List Keyed) → Ascends keyed_cmp ls → IsSorted key_cmp (map (λ (l : Keyed). l.key) ls)
keys_sorted [] up k d low high = absurd (omega (arith, high))
keys_sorted (a ∷ []) up k d low high = absurd (omega (arith, high))
keys_sorted (a ∷ b ∷ ls) up zero d low high = not_below a b up.0
keys_sorted (a ∷ b ∷ ls) up (suc k) d low high =
    let e : suc k + 1 ≡ suc (k + 1) = omega arith in
    let ks : List KeyBytes = map (λ (l : Keyed). l.key) (b ∷ ls) in
    subst (λ m. is_lt (key_cmp (get_or (a.key ∷ ks) m d) (get_or ks k d)) ≡ false) (sym e) (keys_sorted (b ∷ ls) up.1 k d (omega arith) (omega (arith, high)))

pub keys_counted : (way : Disorder) (rs : List Row) (ls : List Keyed) (n : ℕ) → AreAmiss way rs ls → n ≡ length (dedup (λ a b. is_eq (key_cmp a b)) (map (λ (l : Keyed). l.key) ls)) → n ≡ count_keys ls
keys_counted way rs ls n are e =
    let ks = map (λ (l : Keyed). l.key) ls in
    let up : Ascends keyed_cmp ls = subst (Ascends keyed_cmp) (sym are.are) (climbing_ascends keyed_cmp (set.items are.all) (items_climb keyed_cmp are.all)) in
    e ∙ ap length (sorted_items key_total key_exact (λ a b. is_eq (key_cmp a b)) (exact_of key_total key_exact) ks ks (dedup (λ a b. is_eq (key_cmp a b)) ks) (IsPermutation-refl ks) (keys_sorted ls up) refl)

keys_seen : (ls : List ListedEntry) → map (λ (l : Keyed). l.key) (map listed_seen ls) ≡ map key_seen ls
keys_seen [] = refl
keys_seen (l ∷ ls) = ap (λ ks. key_seen l ∷ ks) (keys_seen ls)

pub keys_of_listed : (way : Disorder) (rs : List Row) (ls : List ListedEntry) (n : ℕ) → n ≡ length (dedup (λ a b. is_eq (key_cmp a b)) (map key_seen ls)) → AreAmiss way rs (map listed_seen ls) → n ≡ count_keys (map listed_seen ls)
keys_of_listed way rs ls n e are = keys_counted way rs (map listed_seen ls) n are (e ∙ ap (λ ks. length (dedup (λ a b. is_eq (key_cmp a b)) ks)) (sym (keys_seen ls)))
