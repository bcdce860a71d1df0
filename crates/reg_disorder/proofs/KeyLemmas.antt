-- The keys of rows, gathered one row after another.
use Rattle.std.proofs.Common.{◌≡◌, ◌↔◌, ◌⊎◌, Bool, true, false, not, ◌||◌, IsTrue, List, [], ◌∷◌, ◌++◌, refl, sym, ap, ◌∙◌, subst, inl, inr}
use Rattle.std.proofs.lemmas.Bool.{true≢false, or_cases, or_left, or_right, true_from_ne_false, false_from_ne_true}
use Rattle.std.proofs.lemmas.List.Elements.{Contains-append_left, Contains-push, Contains-push_cases}
use Rattle.std.specs.List.{Contains, list_any}
use Rattle.std.specs.Cmp.{tied_itself}
use Rattle.std.specs.Ordering.{is_eq}
use Rattle.reg_op.specs.Rows.{Row}
use Rattle.reg_report.specs.Conflicts.{KeyBytes, key_cmp, HasKey}
use Rattle.reg_report.specs.Exports.{is_retired}
use Rattle.reg_report.proofs.ConflictLemmas.{none_in, key_total, key_exact}
use Rattle.reg_report.proofs.ContenderLemmas.{one_key}
use Rattle.reg_report.specs.declared.key.KeyText.{KeyText}
use Rattle.reg_report.specs.Keys.{key_bytes}
use Rattle.reg_disorder.specs.Disorders.{IsWithdrawn}
use Rattle.reg_disorder.specs.Keys.{KeySet, has_key, PutsRowKey, IsLive, HasLiveKeys}
use Rattle.reg_disorder.proofs.ListLemmas.{exact_of}

pub no_keys : (s : KeySet) → s.keys ≡ [] → HasLiveKeys [] s
no_keys s e k = (
  λ h. absurd (true≢false (sym h ∙ ap (list_any (λ (q : KeyText). is_eq (key_cmp k (key_bytes q)))) e)),
  λ live. absurd (none_in live.row live.there),
)

module _ (rs : List Row) (r : Row) where
  wider : (k : KeyBytes) → IsLive rs k → IsLive (rs ++ r ∷ []) k
  wider k live = record { row = live.row; there = Contains-append_left rs (r ∷ []) live.row live.there; stands = live.stands; key = live.key }

  -- the live row is an earlier one, or the last
  which : (k : KeyBytes) → IsLive (rs ++ r ∷ []) k → IsLive rs k ⊎ ((is_retired r.status ≡ false) × HasKey r.definition k)
  which k live = elim (Contains-push_cases rs r live.row live.there) [
    | inl early ↦ inl (record { row = live.row; there = early; stands = live.stands; key = live.key })
    | inr last ↦ inr (subst (λ (q : Row). is_retired q.status ≡ false) (sym last) live.stands, subst (λ (q : Row). HasKey q.definition k) (sym last) live.key)
  ]

  pub keys_more : (old new : KeySet) → PutsRowKey r old new → HasLiveKeys rs old → HasLiveKeys (rs ++ r ∷ []) new
  keys_more old new (inl (gone, same)) has k = (
    λ h. wider k ((has k).0 (sym (same k) ∙ h)),
    λ live. same k ∙ elim (which k live) [ inl early ↦ (has k).1 early | inr last ↦ absurd (true≢false (sym gone ∙ last.0)) ],
  )
  keys_more old new (inr (stands, (key, keyed, puts))) has k = (
    λ h. elim (or_cases _ _ (sym (puts k) ∙ h)) [
      | inl same ↦ record { row = r; there = Contains-push rs r; stands = stands; key = subst (HasKey r.definition) ((exact_of key_total key_exact key k).0 same) keyed }
      | inr before ↦ wider k ((has k).0 before)
    ],
    λ live. puts k ∙ elim (which k live) [
      | inl early ↦ or_right _ _ ((has k).1 early)
      | inr last ↦ or_left _ _ ((exact_of key_total key_exact key k).1 (one_key r.definition key k keyed last.1))
    ],
  )

pub withdrawn_is : (rs : List Row) (s : KeySet) (r : Row) (key : KeyBytes) (b : Bool) → HasLiveKeys rs s → HasKey r.definition key → b ≡ not (has_key s key) → IsTrue b ↔ IsWithdrawn rs r
withdrawn_is rs s r key b has keyed e = (
  λ h k its other there other_key.
      let same : k ≡ key = one_key r.definition k key its keyed in
      true_from_ne_false (is_retired other.status) (λ stands. true≢false (sym h ∙ e ∙ ap not ((has key).1 (record { row = other; there = there; stands = stands; key = subst (HasKey other.definition) same other_key })))),
  λ all. e ∙ ap not (false_from_ne_true (has_key s key) (λ h. let live = (has key).0 h in true≢false (sym (all key keyed live.row live.there live.key) ∙ live.stands))),
)

-- an entry that is not retired is not withdrawn
pub live_is_not : (rs : List Row) (r : Row) (key : KeyBytes) (b : Bool) → b ≡ false → is_retired r.status ≡ false → HasKey r.definition key → Contains rs r → IsTrue b ↔ IsWithdrawn rs r
live_is_not rs r key b fails stands keyed there = (λ h. absurd (true≢false (sym h ∙ fails)), λ all. absurd (true≢false (sym (all key keyed r there keyed) ∙ stands)))
