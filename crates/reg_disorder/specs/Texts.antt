-- Texts of rows, gathered in sets.
use Rattle.std.specs.Prelude.{◌≡◌, ◌||◌, ◌&&◌, ◌⊎◌, ℕ, Bool, true, false, List, nat_lt}
use Rattle.std.specs.Borrow.{Bor}
use Rattle.std.specs.BTreeSet.{BTreeSet, contains_by}
use Rattle.std.specs.List.{count_by}
use Rattle.std.specs.Cmp.Lexicographic.{slice_cmp}
use Rattle.std.specs.Ordering.{nat_cmp, is_eq}
use Rattle.reg_op.specs.Rows.{Row}
use Rattle.reg_report.specs.Exports.{is_retired}
use Rattle.reg_disorder.specs.Disorders.{stands_with}

abbrev pub TextSet : Type 0
TextSet = BTreeSet (Bor (List ℕ))

abbrev pub has_text : TextSet → List ℕ → Bool
has_text s t = contains_by (λ (k : Bor (List ℕ)). slice_cmp nat_cmp t k.now) s

abbrev pub is_text : List ℕ → List ℕ → Bool
is_text text t = is_eq (slice_cmp nat_cmp text t)

-- the text is seen afterwards, and seen several times if it was seen before
pub record PutsText (text : List ℕ) (seen several next more : TextSet) : Type 0 where
  pub once : (t : List ℕ) → has_text next t ≡ (is_text text t || has_text seen t)
  pub again : (t : List ℕ) → has_text more t ≡ ((is_text text t && has_text seen t) || has_text several t)

pub record Stay (seen several next more : TextSet) : Type 0 where
  pub once : (t : List ℕ) → has_text next t ≡ has_text seen t
  pub again : (t : List ℕ) → has_text more t ≡ has_text several t

abbrev pub PutsRow : Row → TextSet → TextSet → TextSet → TextSet → Type 0
PutsRow r seen several next more =
    ((is_retired r.status ≡ true) × Stay seen several next more) ⊎ ((is_retired r.status ≡ false) × PutsText r.definition seen several next more)

-- the texts of at least one entry that is not retired, and of at least two
abbrev pub HasSome : List Row → TextSet → Type 0
HasSome rs s = (t : List ℕ) → has_text s t ≡ nat_lt 0 (count_by (stands_with t) rs)

abbrev pub HasSeveral : List Row → TextSet → Type 0
HasSeveral rs s = (t : List ℕ) → has_text s t ≡ nat_lt 1 (count_by (stands_with t) rs)
