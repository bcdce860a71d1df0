-- The keys of texts, and the entries of an authority whose keys no text has.
use Rattle.std.proofs.Common.{◌≡◌, ◌↔◌, ℕ, Bool, true, false, not, cond, List, [], ◌∷◌, ◌++◌, append-nil, map, refl, sym, ap, ◌∙◌, subst, inl, inr}
use Rattle.std.specs.Prelude.{IsTrue, Contains, if◌then◌else◌}
use Rattle.std.specs.Cmp.{Equal-is, tied_itself}
use Rattle.std.specs.Ordering.{is_eq}
use Rattle.std.proofs.lemmas.Bool.{true≢false}
use Rattle.std.proofs.lemmas.List.{map-append}
use Rattle.std.proofs.lemmas.List.Elements.{Contains-append_cases, Contains-append_left, Contains-append_right}
use Rattle.crs_value.specs.Parts.{IsAlike}
use Rattle.reg_op.specs.Rows.{Row as RowOf}
use Rattle.reg_report.specs.declared.row.Row.{Row}
use Rattle.reg_report.specs.Conflicts.{KeyBytes, bytes_of, key_cmp, HasKey}
use Rattle.reg_report.specs.Seen.{row_seen}
use Rattle.reg_report.proofs.ConflictLemmas.{key_total, key_exact, none_in, in_cons, in_head, in_tail}
use Rattle.reg_import.specs.declared.reading.ReadText.{ReadText}
use Rattle.reg_import.specs.declared.reading.ReadText.TheVariants as reading
use Rattle.reg_import.specs.Known.{stands}
use Rattle.reg_import.specs.Readings.{keys_in}
use Rattle.reg_import.specs.Gone.{IsOf, IsGone, AreGone, IsKeyOf, IsLiveKey}
use Rattle.reg_import.proofs.StandingLemmas.{one_key}

-- ---- keys of texts

-- inserting k into a set of keys appends it to the keys that the set has
pub key_added : (keys : List KeyBytes) (k q : KeyBytes) (old new : Bool) → new ≡ cond (is_eq (key_cmp k q)) true old → IsTrue old ↔ Contains keys q → IsTrue new ↔ Contains (keys ++ k ∷ []) q
key_added keys k q old new e is = by (is_eq (key_cmp k q)) refl
  where
    by : (b : Bool) → is_eq (key_cmp k q) ≡ b → IsTrue new ↔ Contains (keys ++ k ∷ []) q
    by true same = (
      λ _. subst (λ x. Contains (keys ++ k ∷ []) x) (key_exact k q ((Equal-is (key_cmp k q)).0 same)) (Contains-append_right keys (k ∷ []) k (in_head k [])),
      λ _. e ∙ (λ j. cond (same j) true old),
    )
    by false other =
        let stays : new ≡ old = e ∙ (λ j. cond (other j) true old) in (
          λ yes. Contains-append_left keys (k ∷ []) q (is.0 (sym stays ∙ yes)),
          λ h. elim (Contains-append_cases keys (k ∷ []) q h) [
            | inl early ↦ stays ∙ is.1 early
            | inr last ↦ elim (in_cons q k [] last) [
              | inl same ↦ absurd (true≢false (sym (subst (λ x. is_eq (key_cmp k x) ≡ true) (sym same) (ap is_eq (tied_itself key_total k))) ∙ other))
              | inr never ↦ absurd (none_in q never)
            ]
          ],
        )

pub keys_in-append : (rs ss : List ReadText) → keys_in (rs ++ ss) ≡ keys_in rs ++ keys_in ss
keys_in-append [] ss = refl
keys_in-append (reading.Defined text key ∷ rs) ss = ap (λ ks. bytes_of key ∷ ks) (keys_in-append rs ss)
keys_in-append (reading.Unread f ∷ rs) ss = keys_in-append rs ss

-- ---- one entry

module _ (authority : List ℕ) (texts : List KeyBytes) (r : RowOf) (key : KeyBytes) (keyed : HasKey r.definition key) where
  same_key : (other : KeyBytes) → HasKey r.definition other → key ≡ other
  same_key other h = sym keyed.2 ∙ one_key r.definition keyed.0 h.0 keyed.1 h.1 ∙ h.2

  pub is_of_another : (alike : Bool) → IsTrue alike ↔ IsAlike authority key.authority → alike ≡ false → IsTrue false ↔ IsGone authority texts r
  is_of_another alike is other = (
    λ e. absurd (true≢false (sym e)),
    λ g. absurd (true≢false (sym (is.1 (subst (λ (k : KeyBytes). IsAlike authority k.authority) (sym (same_key g.0 (g.1).keyed)) (g.1).of)) ∙ other)),
  )

  pub is_of_it : (alike has : Bool) → stands r ≡ true → IsTrue alike ↔ IsAlike authority key.authority → alike ≡ true → IsTrue has ↔ Contains texts key → IsTrue (not has) ↔ IsGone authority texts r
  is_of_it alike has stand is own there = (
    λ e. (key, record { stands = stand; keyed = keyed; of = is.0 own }, λ h. not_both has (there.1 h) e),
    λ g. none has (λ t. g.2 (subst (Contains texts) (same_key g.0 (g.1).keyed) (there.0 t))),
  )
    where
      not_both : (b : Bool) → b ≡ true → not b ≡ true → ⊥
      not_both true h e = true≢false (sym e)
      not_both false h e = true≢false (sym h)

      none : (b : Bool) → (b ≡ true → ⊥) → not b ≡ true
      none true n = absurd (n refl)
      none false n = refl

-- ---- a loop over the entries

module _ (authority : List ℕ) (texts : List KeyBytes) where
  pub gone_more : (done : List RowOf) (r : RowOf) (wanted : Bool) (old new : List RowOf) → IsTrue wanted ↔ IsGone authority texts r → new ≡ old ++ (if wanted then r ∷ [] else []) → AreGone authority texts done old
      → AreGone authority texts (done ++ r ∷ []) new
  gone_more [] r true old new is e none = inl (is.0 refl, ([], refl, e ∙ ap (λ t. t ++ r ∷ []) none))
  gone_more [] r false old new is e none = inr (λ g. true≢false (sym (is.1 g)), e ∙ append-nil old ∙ none)
  gone_more (d ∷ done) r wanted old new is e (inl p) = inl (
    p.0,
    ((p.1).0 ++ (if wanted then r ∷ [] else []), gone_more done r wanted (p.1).0 _ is refl (p.1).1, e ∙ ap (λ t. t ++ (if wanted then r ∷ [] else [])) (p.1).2),
  )
  gone_more (d ∷ done) r wanted old new is e (inr p) = inr (p.0, gone_more done r wanted old new is e p.1)

  -- the same for rows of the program
  pub gone_rows_more : (xs : List Row) (row : Row) (wanted : Bool) (old new : List RowOf) → IsTrue wanted ↔ IsGone authority texts (row_seen row) → new ≡ old ++ (if wanted then row_seen row ∷ [] else [])
      → AreGone authority texts (map row_seen xs) old → AreGone authority texts (map row_seen (xs ++ row ∷ [])) new
  gone_rows_more xs row wanted old new is e are = subst (λ l. AreGone authority texts l new) (sym (map-append row_seen xs (row ∷ []))) (gone_more (map row_seen xs) (row_seen row) wanted old new is e are)

  -- ---- the entries that are listed, and their keys

  is_gone : (rs gone : List RowOf) → AreGone authority texts rs gone → (r : RowOf) → Contains gone r → Contains rs r × IsGone authority texts r
  is_gone [] gone e r h = absurd (none_in r (subst (λ l. Contains l r) e h))
  is_gone (x ∷ rs) gone (inl p) r h = elim (in_cons r x (p.1).0 (subst (λ l. Contains l r) (p.1).2 h)) [
    | inl same ↦ (subst (λ y. Contains (x ∷ rs) y) (sym same) (in_head x rs), subst (IsGone authority texts) (sym same) p.0)
    | inr later ↦ let q = is_gone rs (p.1).0 (p.1).1 r later in (in_tail r x rs q.0, q.1)
  ]
  is_gone (x ∷ rs) gone (inr p) r h = let q = is_gone rs gone p.1 r h in (in_tail r x rs q.0, q.1)

  is_listed : (rs gone : List RowOf) → AreGone authority texts rs gone → (r : RowOf) → Contains rs r → IsGone authority texts r → Contains gone r
  is_listed [] gone e r h g = absurd (none_in r h)
  is_listed (x ∷ rs) gone (inl p) r h g = subst (λ l. Contains l r) (sym (p.1).2) (elim (in_cons r x rs h) [
    | inl same ↦ subst (λ y. Contains (x ∷ (p.1).0) y) (sym same) (in_head x (p.1).0)
    | inr later ↦ in_tail r x (p.1).0 (is_listed rs (p.1).0 (p.1).1 r later g)
  ])
  is_listed (x ∷ rs) gone (inr p) r h g = elim (in_cons r x rs h) [
    | inl same ↦ absurd (p.0 (subst (IsGone authority texts) same g))
    | inr later ↦ is_listed rs gone p.1 r later g
  ]

  pub gone_rows : (rs gone : List RowOf) → AreGone authority texts rs gone → (r : RowOf) → Contains gone r ↔ (Contains rs r × IsGone authority texts r)
  gone_rows rs gone are r = (is_gone rs gone are r, λ p. is_listed rs gone are r p.0 p.1)

  pub gone_keys : (rs gone : List RowOf) → AreGone authority texts rs gone → (key : KeyBytes) → IsKeyOf gone key ↔ (IsLiveKey authority rs key × (¬ (Contains texts key)))
  gone_keys rs gone are key = (
    λ h.
        let p = is_gone rs gone are h.0 h.1 in
        let g = p.1 in
        let same : g.0 ≡ key = same_key authority texts h.0 g.0 (g.1).keyed key h.2 in
        ((h.0, p.0, subst (IsOf authority h.0) same g.1), λ c. g.2 (subst (Contains texts) (sym same) c)),
    λ h. ((h.0).0, is_listed rs gone are (h.0).0 (h.0).1 (key, (h.0).2, h.1), ((h.0).2).keyed),
  )
