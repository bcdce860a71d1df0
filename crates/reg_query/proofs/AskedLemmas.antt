-- The requested entries in order, and what a binary search among them finds.
use Rattle.std.proofs.Common.{◌≡◌, ℕ, ◌+◌, ◌<◌, ◌||◌, Bool, true, false, List, [], ◌∷◌, map, length, Ok, Err, refl, sym, ap, ◌∙◌, subst, inl, inr}
use Rattle.std.specs.Prelude.{Contains, Result, is_ok}
use Rattle.std.specs.List.{list_any}
use Rattle.std.specs.List.Sorted.{IsSorted, IsPermutation, IsBinarySearchResult, IsSearchInRange}
use Rattle.std.specs.Cmp.{tied_itself}
use Rattle.std.specs.Ordering.{is_eq}
use Rattle.std.proofs.lemmas.Bool.{false_from_ne_true, or_left, or_right}
use Rattle.std.proofs.lemmas.List.Sorted.{searchable_from_sorted, list_any-IsPermutation}
use Rattle.reg_op.specs.Ids.{Id, id_cmp, is_same}
use Rattle.reg_op.specs.Operations.{Op}
use Rattle.reg_op.proofs.OpLemmas.{id_total, id_exact, is_same_exact}
use Rattle.reg_report.proofs.ConflictLemmas.{none_in, in_cons, in_head, in_tail}
use Rattle.reg_report.proofs.FoundLemmas.{absent}
use Rattle.reg_query.specs.Asked.{is_asked, is_logged, AreWanted}
use Rattle.reg_query.specs.Log.{subject}
use Rattle.reg_query.specs.declared.log.asked.Asked.{Asked}
use Rattle.reg_query.specs.declared.log.asked.Asked.TheVariants.{All, These}
use Rattle.reg_query.specs.declared.log.asked.WantedEntries.TheVariants as wanted
use Rattle.std.specs.Global.{Vec}

any_has : (ids : List Id) (i : Id) → Contains ids i → list_any (is_same i) ids ≡ true
any_has [] i h = absurd (none_in i h)
any_has (x ∷ xs) i h = elim (in_cons i x xs h) [
  | inl e ↦ or_left (is_same i x) _ (subst (λ k. is_same i k ≡ true) e (ap is_eq (tied_itself id_total i)))
  | inr later ↦ or_right (is_same i x) _ (any_has xs i later)
]

none_has : (ids : List Id) (i : Id) → ¬ (Contains ids i) → list_any (is_same i) ids ≡ false
none_has [] i never = refl
none_has (x ∷ xs) i never =
    let first : is_same i x ≡ false = false_from_ne_true _ (λ e. never (subst (Contains (x ∷ xs)) (sym (is_same_exact i x e)) (in_head x xs))) in
    let others : list_any (is_same i) xs ≡ false = none_has xs i (λ t. never (in_tail i x xs t)) in
    λ j. first j || others j

pub among : (ids : List Id) (i : Id) (r : Result ℕ ℕ) → IsSorted id_cmp ids → IsSearchInRange r (length ids) → IsBinarySearchResult (λ y. id_cmp y i) ids r → is_ok r ≡ list_any (is_same i) ids
among ids i (Ok at) up bound found = sym (any_has ids i (at, bound, id_exact _ i (found i)))
among ids i (Err p) up bound point = sym (none_has ids i (λ h. absent (λ y. id_cmp y i) ids p (point (searchable_from_sorted id_total (λ (y : Id). y) ids i up)) i h (tied_itself id_total i)))

-- ---- the requested entries

pub wanted_these : (a : Asked) (ids : Vec Id) (e : Id) → AreWanted a (wanted.These ids) → list_any (is_same e) ids.items ≡ is_asked a e
wanted_these All ids e w = absurd w
wanted_these (These entries) ids e w = sym (list_any-IsPermutation (is_same e) entries.now ids.items w.same)

pub in_order : (a : Asked) (ids : Vec Id) → AreWanted a (wanted.These ids) → IsSorted id_cmp ids.items
in_order All ids w = absurd w
in_order (These entries) ids w = w.order

-- ---- the entries with an operation

any_subject : (e : Id) (os : List Op) → list_any (is_same e) (map subject os) ≡ is_logged os e
any_subject e [] = refl
any_subject e (o ∷ os) = ap (λ b. is_same e (subject o) || b) (any_subject e os)

pub among_subjects : (os : List Op) (ids : List Id) → IsPermutation (map subject os) ids → (e : Id) → list_any (is_same e) ids ≡ is_logged os e
among_subjects os ids p e = sym (list_any-IsPermutation (is_same e) (map subject os) ids p) ∙ any_subject e os
