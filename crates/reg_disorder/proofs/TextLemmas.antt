-- The texts of rows, gathered one row after another.
use Rattle.std.proofs.Common.{◌≡◌, ◌↔◌, ◌+◌, ℕ, nat_eq, nat_lt, Bool, true, false, not, ◌&&◌, ◌||◌, cond, IsTrue, List, [], ◌∷◌, ◌++◌, refl, sym, ap, ◌∙◌, subst, inl, inr, arith, add-zero}
use Rattle.std.proofs.lemmas.Bool.{ltb-true, lt-ltb}
use Rattle.std.proofs.lemmas.Bool.Decides.{nat_tests}
use Rattle.std.proofs.lemmas.List.Sums.{sum_by_push}
use Rattle.std.specs.List.{count_by, list_any}
use Rattle.std.specs.Borrow.{Bor}
use Rattle.std.specs.Cmp.Lexicographic.{pointwise, slice_cmp, same_text, texts_ties}
use Rattle.std.specs.Ordering.{nat_cmp, is_eq}
use Rattle.reg_op.specs.Rows.{Row}
use Rattle.reg_report.specs.Exports.{is_retired}
use Rattle.reg_disorder.specs.Disorders.{stands_with, IsDuplicate}
use Rattle.reg_disorder.specs.Texts.{TextSet, has_text, is_text, PutsRow, HasSome, HasSeveral}

-- ---- counts

-- one more text, which is the same or not
some_more : (same : Bool) (n m : ℕ) → m ≡ n + cond same 1 0 → (same || nat_lt 0 n) ≡ nat_lt 0 m
some_more true n m h = grind (arith, nat_tests, h)
some_more false n m h = grind (arith, nat_tests, h)

several_more : (same : Bool) (n m : ℕ) → m ≡ n + cond same 1 0 → ((same && nat_lt 0 n) || nat_lt 1 n) ≡ nat_lt 1 m
several_more true n m h = grind (arith, nat_tests, h)
several_more false n m h = grind (arith, nat_tests, h)

count_more : (t : List ℕ) (rs : List Row) (r : Row) → count_by (stands_with t) (rs ++ r ∷ []) ≡ count_by (stands_with t) rs + cond (stands_with t r) 1 0
count_more t rs r = sum_by_push (λ (q : Row). cond (stands_with t q) 1 0) rs r

-- ---- one more row

module _ (rs : List Row) (r : Row) where
  same_count : is_retired r.status ≡ true → (t : List ℕ) → count_by (stands_with t) (rs ++ r ∷ []) ≡ count_by (stands_with t) rs
  same_count gone t =
      let off : stands_with t r ≡ false = ap (λ b. not b && pointwise nat_eq r.definition t) gone in
      count_more t rs r ∙ ap (λ b. count_by (stands_with t) rs + cond b 1 0) off ∙ add-zero (count_by (stands_with t) rs)

  next_count : is_retired r.status ≡ false → (t : List ℕ) → count_by (stands_with t) (rs ++ r ∷ []) ≡ count_by (stands_with t) rs + cond (is_text r.definition t) 1 0
  next_count stands t = count_more t rs r ∙ ap (λ b. count_by (stands_with t) rs + cond b 1 0) (ap (λ b. not b && pointwise nat_eq r.definition t) stands ∙ texts_ties r.definition t)

  pub gathered_more : (seen several next more : TextSet) → PutsRow r seen several next more → HasSome rs seen × HasSeveral rs several → HasSome (rs ++ r ∷ []) next × HasSeveral (rs ++ r ∷ []) more
  gathered_more seen several next more (inl (gone, stay)) (some, many) = (
    λ t. stay.once t ∙ some t ∙ ap (nat_lt 0) (sym (same_count gone t)),
    λ t. stay.again t ∙ many t ∙ ap (nat_lt 1) (sym (same_count gone t)),
  )
  gathered_more seen several next more (inr (stands, puts)) (some, many) = (
    λ t. puts.once t ∙ ap (λ b. is_text r.definition t || b) (some t) ∙ some_more (is_text r.definition t) _ _ (next_count stands t),
    λ t. puts.again t ∙ (λ j. (is_text r.definition t && some t j) || many t j) ∙ several_more (is_text r.definition t) _ _ (next_count stands t),
  )

pub nothing_gathered : (seen several : TextSet) → seen.keys ≡ [] → several.keys ≡ [] → HasSome [] seen × HasSeveral [] several
nothing_gathered seen several a b = (
  λ t. ap (list_any (λ (k : Bor (List ℕ)). is_eq (slice_cmp nat_cmp t k.now))) a,
  λ t. ap (list_any (λ (k : Bor (List ℕ)). is_eq (slice_cmp nat_cmp t k.now))) b,
)

pub repeated_is : (rs : List Row) (s : TextSet) (r : Row) (b : Bool) → HasSeveral rs s → is_retired r.status ≡ false → b ≡ has_text s r.definition → IsTrue b ↔ IsDuplicate rs r
repeated_is rs s r b has stands e = (
  λ h. record { stands = stands; several = ltb-true _ _ (sym (e ∙ has r.definition) ∙ h) },
  λ d. e ∙ has r.definition ∙ lt-ltb _ _ d.several,
)

-- ---- one text that is put

abbrev pub as_key : List ℕ → Bor (List ℕ)
as_key t = record { ref_ptr = (0, 0); now = t }

pub cond_or : (b x : Bool) → cond b true x ≡ (b || x)
cond_or true x = refl
cond_or false x = refl

same_of : (text t : List ℕ) → is_text text t ≡ true → text ≡ t
same_of text t e = same_text text t (sym (texts_ties text t ∙ e))

-- a text that was not seen is not seen again
pub not_again : (s : TextSet) (text t : List ℕ) → has_text s text ≡ false → (is_text text t && has_text s t) ≡ false
not_again s text t fresh = by (is_text text t) refl
  where
    by : (b : Bool) → is_text text t ≡ b → (b && has_text s t) ≡ false
    by true e = subst (λ u. has_text s u ≡ false) (same_of text t e) fresh
    by false e = refl

pub then_again : (s : TextSet) (text t : List ℕ) → has_text s text ≡ true → (is_text text t && has_text s t) ≡ is_text text t
then_again s text t seen = by (is_text text t) refl
  where
    by : (b : Bool) → is_text text t ≡ b → (b && has_text s t) ≡ b
    by true e = subst (λ u. has_text s u ≡ true) (same_of text t e) seen
    by false e = refl
