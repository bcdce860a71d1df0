-- Bytes that are a shelf of one content are a shelf of another, or are not.
use Rattle.std.proofs.Common.{◌≡◌, ℕ, true, List, length, sym, ap, ◌∙◌, subst, inl, inr, ◌⊎◌, arith}
use Rattle.std.proofs.lemmas.Bool.{cases_Bool, true≢false}
use Rattle.std.specs.Ordering.{is_eq}
use Rattle.reg_op.specs.Contents.{Content, IsContent}
use Rattle.reg_state.specs.Runs.{replica_cmp}
use Rattle.reg_state.proofs.RunLemmas.{same_replica, replica_itself}
use Rattle.reg_file.specs.Files.{Holds, IsFileOf}
use Rattle.reg_file.proofs.HoldLemmas.{one_content, one_file}
use Rattle.reg_shelf.specs.Shelf.{IsShelf}
use Rattle.reg_shelf.proofs.Contents.{one_content as one_shelf}
use Rattle.reg_office.specs.Pooled.{OfRegister}
use Rattle.reg_office.specs.World.{World, Outcome, Unchanged, Clashes, Sends, Writes, Gains, IsShelfAfter}
use Rattle.reg_office.proofs.PooledLemmas.{has_file}
use Rattle.reg_office.proofs.WorldInvariant.{Invariant, gain_content, IsGood}

same_or_not : (a b : List ℕ) → (a ≡ b) ⊎ (a ≡ b → ⊥)
same_or_not a b = elim (cases_Bool (is_eq (replica_cmp a b))) [
  | inl e ↦ inl (same_replica a b e)
  | inr n ↦ inr (λ same. true≢false (sym (subst (λ c. is_eq (replica_cmp a c) ≡ true) same (replica_itself a)) ∙ n))
]

-- a content whose file is given is equal to another content, or is not
content_or_not : (bytes : List ℕ) (x y : Content) → Holds bytes x → IsContent y → (x ≡ y) ⊎ (x ≡ y → ⊥)
content_or_not bytes x y held is = elim (has_file (OfRegister y) is) [
  | inl f ↦ elim (same_or_not bytes f.0) [
    | inl same ↦ inl (one_content f.0 x y (subst (λ b. Holds b x) same held) f.1)
    | inr differ ↦ inr (λ e. differ (one_file y bytes f.0 (subst (λ c. IsFileOf c bytes) e held.bytes_are) f.1.bytes_are))
  ]
  | inr large ↦ inr (λ e. let same = one_file y large.0 bytes large.1 (subst (λ c. IsFileOf c bytes) e held.bytes_are) in absurd (omega (arith, large.2, held.short, ap length same)))
]

-- bytes that are a shelf of a content are a shelf of an outcome's content, or are not
pub shelf_or_not : (w : World) (inv : Invariant w) (left : List ℕ) (was : Content) → IsShelf left was → (bytes : List ℕ) × Holds bytes was → (out : Outcome) → IsGood w inv out
    → IsShelfAfter left out ⊎ (IsShelfAfter left out → ⊥)
shelf_or_not w inv left was shelf file Unchanged good = inr (λ h. h)
shelf_or_not w inv left was shelf file (Clashes id) good = inr (λ h. h)
shelf_or_not w inv left was shelf file (Sends sent) good = inr (λ h. h)
shelf_or_not w inv left was shelf file (Writes what reached) good = inr (λ h. h)
shelf_or_not w inv left was shelf file (Gains i x reached) good = elim (content_or_not file.0 was x file.1 (gain_content w inv i x reached good)) [
  | inl same ↦ inl (subst (IsShelf left) same shelf)
  | inr differ ↦ inr (λ h. differ (one_shelf left was x shelf h))
]
