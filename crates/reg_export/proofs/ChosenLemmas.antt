-- The uncontested rows, and the least place of the contested ones, row by row.
use Rattle.std.proofs.Common.{◌≡◌, ◌≢◌, ◌⊎◌, Bool, true, false, cond, List, [], ◌∷◌, ◌++◌, Option, Some, None, refl, sym, ap, ◌∙◌, subst, inl, inr, append_assoc, append-nil}
use Rattle.std.specs.Prelude.{◌↔◌, Contains, IsTrue}
use Rattle.std.specs.Cmp.{IsTotalOrder, IsStrictWeakOrder, then_total, on_total, tied_itself}
use Rattle.std.specs.Ordering.{is_lt}
use Rattle.std.proofs.lemmas.Bool.{true≢false}
use Rattle.std.proofs.lemmas.List.Elements.{Contains-append_cases, Contains-append_left, Contains-append_right}
use Rattle.std.proofs.lemmas.List.Sorted.{ranks_by}
use Rattle.reg_op.specs.Ids.{Id}
use Rattle.reg_op.specs.Rows.{Row}
use Rattle.reg_op.proofs.OpLemmas.{id_total}
use Rattle.reg_report.specs.Conflicts.{KeyBytes, HasKey}
use Rattle.reg_report.proofs.ConflictLemmas.{key_total, none_in, in_cons, in_head}
use Rattle.reg_report.proofs.ContenderLemmas.{one_key}
use Rattle.reg_export.specs.Chosen.{IsContested, AreUncontested, KeyThenEntry, place_cmp, IsPlaceOf, IsLeast, IsTaken}
use Rattle.reg_export.specs.Kept.{lesser, least_with, option_entry}
use Rattle.reg_export.proofs.NotedLemmas.{in_last}

-- ---- the uncontested rows

-- `made`, followed by the uncontested rows of the rest, has the uncontested rows of all
abbrev pub Keeps : List Row → List Row → List Row → Type 0
Keeps all rest made = (more : List Row) → AreUncontested all rest more → AreUncontested all all (made ++ more)

pub keeps_none : (all made : List Row) → made ≡ [] → Keeps all all made
keeps_none all made e more m = subst (λ l. AreUncontested all all (l ++ more)) (sym e) m

pub keeps_one : (all rest others : List Row) (x : Row) (made new : List Row) → rest ≡ x ∷ others → ¬ (IsContested all x) → new ≡ made ++ x ∷ [] → Keeps all rest made → Keeps all others new
keeps_one all rest others x made new e never pushed g more m =
    subst (λ l. AreUncontested all all l) (sym (ap (λ l. l ++ more) pushed ∙ append_assoc made (x ∷ []) more))
    (g (x ∷ more) (subst (λ l. AreUncontested all l (x ∷ more)) (sym e) (inl (never, (more, m, refl)))))

pub keeps_other : (all rest others : List Row) (x : Row) (made : List Row) → rest ≡ x ∷ others → IsContested all x → Keeps all rest made → Keeps all others made
keeps_other all rest others x made e is g more m = g more (subst (λ l. AreUncontested all l more) (sym e) (inr (is, m)))

pub keeps_all : (all rest made : List Row) → rest ≡ [] → Keeps all rest made → AreUncontested all all made
keeps_all all rest made e g = subst (λ l. AreUncontested all all l) (append-nil made) (g [] (subst (λ l. AreUncontested all l []) (sym e) refl))

-- ---- the least place

place_total : IsTotalOrder place_cmp
place_total = then_total (on_total (λ (p : KeyThenEntry). p.key) key_total) (on_total (λ (p : KeyThenEntry). p.entry) id_total)

by_place : IsStrictWeakOrder (λ a b. is_lt (place_cmp a b))
by_place = ranks_by place_total (λ (p : KeyThenEntry). p)

not_itself : (p : KeyThenEntry) → is_lt (place_cmp p p) ≡ false
not_itself p = ap is_lt (tied_itself place_total p)

one_place : (r : Row) (p q : KeyThenEntry) → IsPlaceOf r p → IsPlaceOf r q → p ≡ q
one_place r p q a b =
    let key : p.key ≡ q.key = one_key r.definition p.key q.key a.0 b.0 in
    let entry : p.entry ≡ q.entry = a.1 ∙ sym b.1 in
    λ j. record { key = key j; entry = entry j }

-- the least place of the contested rows so far, if there are any
abbrev pub Best : List Row → List Row → Option KeyThenEntry → Type 0
Best all done None = (r : Row) → Contains done r → ¬ (IsContested all r)
Best all done (Some p) = IsLeast all done p

pub best_none : (all : List Row) → Best all [] None
best_none all r there = absurd (none_in r there)

pub best_same : (all done : List Row) (r : Row) (o : Option KeyThenEntry) → ¬ (IsContested all r) → Best all done o → Best all (done ++ r ∷ []) o
best_same all done r None never best = λ q h. elim (in_last done r q h) [
  | inl early ↦ best q early
  | inr same ↦ λ c. never (subst (IsContested all) same c)
]
best_same all done r (Some p) never best = record {
  row = best.row;
  there = Contains-append_left done (r ∷ []) best.row best.there;
  contested = best.contested;
  placed = best.placed;
  first = λ q s h c placed. elim (in_last done r q h) [
    | inl early ↦ best.first q s early c placed
    | inr same ↦ absurd (never (subst (IsContested all) same c))
  ];
}

module _ (all done : List Row) (r : Row) (p : KeyThenEntry) (is : IsContested all r) (placed : IsPlaceOf r p) where
  -- the place of r is the least one if no earlier contested row has a lesser place
  here : ((q : Row) (s : KeyThenEntry) → Contains done q → IsContested all q → IsPlaceOf q s → is_lt (place_cmp s p) ≡ false) → IsLeast all (done ++ r ∷ []) p
  here earlier = record {
    row = r;
    there = Contains-append_right done (r ∷ []) r (in_head r []);
    contested = is;
    placed = placed;
    first = λ q s h c its. elim (in_last done r q h) [
      | inl early ↦ earlier q s early c its
      | inr same ↦ subst (λ t. is_lt (place_cmp t p) ≡ false) (one_place r p s placed (subst (λ (x : Row). IsPlaceOf x s) same its)) (not_itself p)
    ];
  }

  pub best_more : (o : Option KeyThenEntry) → Best all done o → Best all (done ++ r ∷ []) (Some (lesser o p))
  best_more None best = here (λ q s h c its. absurd (best q h c))
  best_more (Some least) best = by (is_lt (place_cmp p least)) refl
    where
      by : (t : Bool) → is_lt (place_cmp p least) ≡ t → IsLeast all (done ++ r ∷ []) (cond t p least)
      by true less = here (λ q s h c its. by_place.chain s least p (best.first q s h c its) (by_place.one_way p least less))
      by false more = record {
        row = best.row;
        there = Contains-append_left done (r ∷ []) best.row best.there;
        contested = best.contested;
        placed = best.placed;
        first = λ q s h c its. elim (in_last done r q h) [
          | inl early ↦ best.first q s early c its
          | inr same ↦ subst (λ t. is_lt (place_cmp t least) ≡ false) (one_place r p s placed (subst (λ (x : Row). IsPlaceOf x s) same its)) more
        ];
      }

pub taken_is : (all done : List Row) (o : Option KeyThenEntry) → all ≡ done → Best all done o → IsTaken all (option_entry o)
taken_is all done None e best = λ r h. best r (subst (λ l. Contains l r) e h)
taken_is all done (Some p) e best = (p, subst (λ l. IsLeast all l p) (sym e) best, refl)

-- ---- one more row

pub with_row : (all done rest others : List Row) (r : Row) (p : KeyThenEntry) (t : Bool) (kept new : List Row) (o : Option KeyThenEntry) → rest ≡ r ∷ others → IsTrue t ↔ IsContested all r → IsPlaceOf r p
    → new ≡ kept ++ cond t [] (r ∷ []) → Keeps all rest kept → Best all done o → Keeps all others new × Best all (done ++ r ∷ []) (least_with t o p)
with_row all done rest others r p true kept new o e is placed pushed keeps best =
    (subst (λ l. Keeps all others l) (sym (pushed ∙ append-nil kept)) (keeps_other all rest others r kept e (is.0 refl) keeps), best_more all done r p (is.0 refl) placed o best)
with_row all done rest others r p false kept new o e is placed pushed keeps best =
    let never : ¬ (IsContested all r) = λ c. true≢false (sym (is.1 c)) in
    (keeps_one all rest others r kept new e never pushed keeps, best_same all done r o never best)

-- ---- the rows so far

pub more_done : (all done rest others : List Row) (r : Row) → all ≡ done ++ rest → rest ≡ r ∷ others → all ≡ (done ++ r ∷ []) ++ others
more_done all done rest others r e f = e ∙ ap (λ l. done ++ l) f ∙ sym (append_assoc done (r ∷ []) others)

pub is_there : (all done rest others : List Row) (r : Row) → all ≡ done ++ rest → rest ≡ r ∷ others → Contains all r
is_there all done rest others r e f = subst (λ l. Contains l r) (sym (e ∙ ap (λ l. done ++ l) f)) (Contains-append_right done (r ∷ others) r (in_head r others))

pub all_done : (all done rest : List Row) → all ≡ done ++ rest → rest ≡ [] → all ≡ done
all_done all done rest e f = e ∙ ap (λ l. done ++ l) f ∙ append-nil done
