-- The notes on the texts of keys, row by row.
use Rattle.std.proofs.Common.{◌≡◌, ◌≢◌, ◌⊎◌, ℕ, nat_eq, Bool, true, false, not, ◌||◌, cond, List, [], ◌∷◌, ◌++◌, map, Option, Some, None, refl, sym, ap, ◌∙◌, subst, inl, inr, append_assoc, append-nil}
use Rattle.std.specs.Prelude.{◌↔◌, Contains, IsTrue}
use Rattle.std.specs.Borrow.{Bor}
use Rattle.std.specs.BTreeMap.{BTreeMap}
use Rattle.std.specs.Map.{lookup}
use Rattle.std.specs.Cmp.Lexicographic.{pointwise}
use Rattle.std.specs.Ordering.{is_eq}
use Rattle.std.proofs.lemmas.Bool.{true≢false}
use Rattle.std.proofs.lemmas.List.Elements.{Contains-append_cases, Contains-append_left, Contains-append_right}
use Rattle.reg_op.specs.Rows.{Row}
use Rattle.reg_report.specs.Conflicts.{KeyBytes, key_cmp, HasKey}
use Rattle.reg_report.proofs.ConflictLemmas.{none_in, in_cons, in_head}
use Rattle.reg_report.proofs.ContenderLemmas.{one_key}
use Rattle.reg_report.specs.declared.key.KeyText.{KeyText}
use Rattle.reg_report.specs.Keys.{text_cmp}
use Rattle.reg_export.specs.declared.notes.TextOfKey.{TextOfKey}
use Rattle.reg_export.specs.Chosen.{IsContested}
use Rattle.reg_export.specs.Noted.{Noted, At, noted, has_several, Holds, with_text, with_note, HasOthers, Tells}
use Rattle.reg_export.proofs.TextLemmas.{same_key, key_itself}
use Rattle.wkt_crs.proofs.Defining.{same_bytes, not_same}

pub nothing_held : (m : BTreeMap KeyText TextOfKey) → m.entries ≡ [] → Holds m (λ _. None)
nothing_held m e q = ap (λ l. noted (lookup (λ k. is_eq (text_cmp q k)) l)) e

pub nothing_told : (k : KeyBytes) → Tells [] k None
nothing_told k r there keyed = none_in r there

-- ---- one more row

pub in_last : (done : List Row) (r q : Row) → Contains (done ++ r ∷ []) q → Contains done q ⊎ (q ≡ r)
in_last done r q h = elim (Contains-append_cases done (r ∷ []) q h) [
  | inl early ↦ inl early
  | inr late ↦ elim (in_cons q r [] late) [ inl same ↦ inr same | inr never ↦ absurd (none_in q never) ]
]

module _ (done : List Row) (r : Row) (k : KeyBytes) (keyed : HasKey r.definition k) (text : List ℕ) (own : text ≡ r.definition) where
  last : Contains (done ++ r ∷ []) r
  last = Contains-append_right done (r ∷ []) r (in_head r [])

  wider : (q : Row) → Contains done q → Contains (done ++ r ∷ []) q
  wider q h = Contains-append_left done (r ∷ []) q h

  -- if each earlier row with the key has the text t, and r has it, each row with the key has it
  each : (t : List ℕ) → ((q : Row) → Contains done q → HasKey q.definition k → q.definition ≡ t) → r.definition ≡ t → (q : Row) → Contains (done ++ r ∷ []) q → HasKey q.definition k → q.definition ≡ t
  each t all is q h its = elim (in_last done r q h) [
    | inl early ↦ all q early its
    | inr same ↦ ap (λ (p : Row). p.definition) same ∙ is
  ]

  own_key : (o : Option Noted) → Tells done k o → Tells (done ++ r ∷ []) k (Some (with_text text o))
  own_key None none = ((r, last, keyed, sym own), each text (λ q h its. absurd (none q h its)) (sym own))
  own_key (Some n) (one, more) = (
    (one.0, wider one.0 one.1, one.2, one.3),
    by n.several (pointwise nat_eq n.text text) refl more,
  )
    where
      by : (s p : Bool) → pointwise nat_eq n.text text ≡ p → HasOthers done k n.text s → HasOthers (done ++ r ∷ []) k n.text (s || not p)
      by true p e m = (m.0, wider m.0 m.1, m.2, m.3)
      by false true e m = each n.text m (sym own ∙ sym (same_bytes n.text text e))
      by false false e m = (r, last, keyed, λ same. not_same n.text text e (sym same ∙ sym own))

  other_key : (l : KeyBytes) → is_eq (key_cmp k l) ≡ false → (o : Option Noted) → Tells done l o → Tells (done ++ r ∷ []) l o
  other_key l differs o tells = by o tells
    where
      not_r : ¬ (HasKey r.definition l)
      not_r its = true≢false (sym (key_itself k l (one_key r.definition k l keyed its)) ∙ differs)

      early : (q : Row) → Contains (done ++ r ∷ []) q → HasKey q.definition l → Contains done q
      early q h its = elim (in_last done r q h) [
        | inl before ↦ before
        | inr same ↦ absurd (not_r (subst (λ (p : Row). HasKey p.definition l) same its))
      ]

      by : (o : Option Noted) → Tells done l o → Tells (done ++ r ∷ []) l o
      by None none = λ q h its. none q (early q h its) its
      by (Some n) (one, more) = ((one.0, wider one.0 one.1, one.2, one.3), deeper n.several more)
        where
          deeper : (s : Bool) → HasOthers done l n.text s → HasOthers (done ++ r ∷ []) l n.text s
          deeper true m = (m.0, wider m.0 m.1, m.2, m.3)
          deeper false m = λ q h its. m q (early q h its) its

  pub told_more : (at : At) → ((l : KeyBytes) → Tells done l (at l)) → (l : KeyBytes) → Tells (done ++ r ∷ []) l (with_note k (with_text text (at k)) at l)
  told_more at tells l = by (is_eq (key_cmp k l)) refl
    where
      by : (t : Bool) → is_eq (key_cmp k l) ≡ t → Tells (done ++ r ∷ []) l (cond t (Some (with_text text (at k))) (at l))
      by true same = subst (λ m. Tells (done ++ r ∷ []) m (Some (with_text text (at k)))) (same_key k l same) (own_key (at k) (tells k))
      by false differs = other_key l differs (at l) (tells l)

-- ---- whether a key has several texts

pub contested_is : (rs : List Row) (k : KeyBytes) (r : Row) (o : Option Noted) → Contains rs r → HasKey r.definition k → Tells rs k o → IsTrue (has_several o) ↔ IsContested rs r
contested_is rs k r None there keyed none = absurd (none r there keyed)
contested_is rs k r (Some n) there keyed (one, more) = by n.several more
  where
    contested : (q : Row) → Contains rs q → HasKey q.definition k → q.definition ≢ r.definition → IsContested rs r
    contested q h its differ = record { other = q; there = h; key = k; own = keyed; its = its; differ = differ }

    by : (s : Bool) → HasOthers rs k n.text s → IsTrue s ↔ IsContested rs r
    by true m = (λ _. two (pointwise nat_eq r.definition n.text) refl, λ _. refl)
      where
        two : (p : Bool) → pointwise nat_eq r.definition n.text ≡ p → IsContested rs r
        two true e = contested m.0 m.1 m.2 (λ same. m.3 (same ∙ same_bytes r.definition n.text e))
        two false e = contested one.0 one.1 one.2 (λ same. not_same r.definition n.text e (sym same ∙ one.3))
    by false m = (
      λ t. let no : false ≡ true = t in absurd cc,
      λ c.
          let its : HasKey c.other.definition k = subst (HasKey c.other.definition) (one_key r.definition c.key k c.own keyed) c.its in
          absurd (c.differ (m c.other c.there its ∙ sym (m r there keyed))),
    )
