-- An entry has one row, which a binary search finds, as it finds an id among ids.
use Rattle.std.proofs.Common.{◌≡◌, ℕ, ◌+◌, ◌<◌, Bool, true, false, List, [], ◌∷◌, map, length, get_or, zero, suc, Ok, Err, sym, ap, ◌∙◌, subst, inl, inr, arith}
use Rattle.std.specs.Prelude.{◌↔◌, IsTrue, Contains, Result, is_ok}
use Rattle.std.specs.List.{HoldsAt}
use Rattle.std.specs.List.Sorted.{IsSorted, IsSortedBy, IsPartitionPoint, IsBinarySearchResult, IsSearchInRange}
use Rattle.std.specs.Cmp.{tied_itself}
use Rattle.std.specs.Ordering.{is_lt}
use Rattle.std.specs.declared.cmp.Ordering.{Ordering}
use Rattle.std.specs.declared.cmp.Ordering.TheVariants.{Less, Equal, Greater}
use Rattle.std.proofs.lemmas.Bool.{true≢false}
use Rattle.std.proofs.lemmas.List.Sorted.{ranks_by, searchable_from_sorted}
use Rattle.reg_op.specs.Ids.{Id, id_cmp}
use Rattle.reg_op.specs.Rows.{Row}
use Rattle.reg_op.specs.Set.{Ascends}
use Rattle.reg_op.proofs.OpLemmas.{id_total, id_exact}
use Rattle.reg_op.proofs.PointLemmas.{lt_or_ge}
use Rattle.reg_report.specs.declared.row.Row.{Row as MadeRow}
use Rattle.reg_report.specs.Seen.{row_seen}
use Rattle.reg_report.proofs.ConflictLemmas.{none_in, in_cons, in_map, from_map}
use Rattle.reg_report.specs.Rows.{row_cmp, HasRow}
use Rattle.reg_report.proofs.OrderLemmas.{never_less, first_before, rest_ascends}
use Rattle.reg_report.proofs.RowLemmas.{row_total}

-- each entry has at most one row
abbrev pub OneRow : List Row → Type 0
OneRow rs = (a b : Row) → Contains rs a → Contains rs b → a.entry ≡ b.entry → a ≡ b

-- this is so in ascending rows
pub one_row : (rs : List Row) → Ascends row_cmp rs → OneRow rs
one_row [] up a b h k e = absurd (none_in a h)
one_row (r ∷ rs) up a b h k e = elim (in_cons a r rs h) [
  | inl a_is ↦ elim (in_cons b r rs k) [
    | inl b_is ↦ a_is ∙ sym b_is
    | inr b_later ↦ absurd (never_less id_total b.entry (subst (λ i. id_cmp i b.entry ≡ Less) (sym (ap (λ (q : Row). q.entry) a_is) ∙ e) (first_before row_total r rs up b b_later)))
  ]
  | inr a_later ↦ elim (in_cons b r rs k) [
    | inl b_is ↦ absurd (never_less id_total a.entry (subst (λ i. id_cmp i a.entry ≡ Less) (sym (ap (λ (q : Row). q.entry) b_is) ∙ sym e) (first_before row_total r rs up a a_later)))
    | inr b_later ↦ one_row rs (rest_ascends row_total r rs up) a b a_later b_later e
  ]
]

-- ---- a binary search

pub absent : {X : Type 0} (ord : X → Ordering) (xs : List X) (p : ℕ) → IsPartitionPoint (λ y. ord y ≡ Less) (λ y. ord y ≡ Greater) xs p → (x : X) → Contains xs x → ord x ≡ Equal → ⊥
absent ord xs p point x h same = elim (lt_or_ge h.0 p) [
  | inl below ↦ let no : Less ≡ Equal = sym (point.0 h.0 x (omega arith) below) ∙ ap ord h.2 ∙ same in absurd cc
  | inr above ↦ let no : Greater ≡ Equal = sym (point.1 h.0 x above h.1) ∙ ap ord h.2 ∙ same in absurd cc
]

entries_sorted : (rs : List MadeRow) → Ascends row_cmp (map row_seen rs) → IsSortedBy (λ (a b : MadeRow). is_lt (id_cmp a.entry b.entry)) rs
entries_sorted [] up k d low h = absurd (omega arith)
entries_sorted (r ∷ []) up k d low h = absurd (omega arith)
entries_sorted (r ∷ q ∷ rs) up zero d low h = (ranks_by id_total (λ (i : Id). i)).one_way r.entry q.entry (ap is_lt up.0)
entries_sorted (r ∷ q ∷ rs) up (suc k) d low h =
    let e : suc k + 1 ≡ suc (k + 1) = omega arith in
    subst (λ m. is_lt (id_cmp (get_or (r ∷ q ∷ rs) m d).entry (get_or (q ∷ rs) k d).entry) ≡ false) (sym e) (entries_sorted (q ∷ rs) up.1 k d (omega arith) (omega arith))

pub found_row : (rs : List MadeRow) (at : ℕ) (row : MadeRow) (e : Id) → at < length rs → row ≡ get_or rs at row → HoldsAt (λ (y : MadeRow). id_cmp y.entry e ≡ Equal) rs at → HasRow (map row_seen rs) e (row_seen row)
found_row rs at row e h is equal = record {
  there = in_map row_seen rs row (at, h, sym is);
  is = id_exact row.entry e (ap (λ (y : MadeRow). id_cmp y.entry e) is ∙ equal row);
}

pub no_row : (rs : List MadeRow) (e : Id) (p : ℕ) → Ascends row_cmp (map row_seen rs) → IsBinarySearchResult (λ (y : MadeRow). id_cmp y.entry e) rs (Err p) → (q : Row) → ¬ (HasRow (map row_seen rs) e q)
no_row rs e p up searched q has =
    let m = from_map row_seen rs q has.there in
    let point = searched (searchable_from_sorted id_total (λ (y : MadeRow). y.entry) rs e (entries_sorted rs up)) in
    absent (λ (y : MadeRow). id_cmp y.entry e) rs p point m.0 m.1 (ap (λ i. id_cmp i e) (sym (ap (λ (x : Row). x.entry) m.2) ∙ has.is) ∙ tied_itself id_total e)

-- a binary search among ids in order finds exactly those of the list
pub among : (ids : List Id) (i : Id) (r : Result ℕ ℕ) (t : Bool) → t ≡ is_ok r → IsSorted id_cmp ids → IsSearchInRange r (length ids) → IsBinarySearchResult (λ y. id_cmp y i) ids r → IsTrue t ↔ Contains ids i
among ids i (Ok at) t e up bound found = (λ _. (at, bound, id_exact _ i (found i)), λ _. e)
among ids i (Err p) t e up bound point = (
  λ (is : t ≡ true). absurd (true≢false (sym is ∙ e)),
  λ (h : Contains ids i). absurd (absent (λ y. id_cmp y i) ids p (point (searchable_from_sorted id_total (λ (y : Id). y) ids i up)) i h (tied_itself id_total i)),
)
