-- The entries of rows, by key.
use Rattle.std.proofs.Common.{◌≡◌, Bool, true, false, cond, List, [], ◌∷◌, ◌++◌, append_assoc, append-nil, map, filter, length, refl, sym, ap, ◌∙◌, subst, arith}
use Rattle.std.proofs.lemmas.Bool.{true≢false}
use Rattle.std.proofs.lemmas.List.Elements.{filter-append}
use Rattle.std.specs.Cmp.{tied_itself, Equal-is}
use Rattle.std.specs.Ordering.{is_eq}
use Rattle.reg_report.specs.declared.row.Row.{Row as MadeRow}
use Rattle.reg_report.specs.Seen.{row_seen}
use Rattle.reg_report.specs.Conflicts.{KeyBytes, key_cmp}
use Rattle.reg_report.proofs.ConflictLemmas.{key_total, key_exact}
use Rattle.reg_import.specs.declared.standing_entry.StandingEntry.{StandingEntry}
use Rattle.reg_import.specs.Known.{IsKnown, AreKnown, stands, OfKey, At, is_key, key_of, by_key, with_key}
use Rattle.reg_import.specs.Index.{with_entry}

pub same_key : (a b : KeyBytes) → is_key a b ≡ true → a ≡ b
same_key a b h = key_exact a b ((Equal-is (key_cmp a b)).0 h)

pub key_itself : (a b : KeyBytes) → a ≡ b → is_key a b ≡ true
key_itself a b e = subst (λ k. is_key a k ≡ true) e (ap is_eq (tied_itself key_total a))

-- ---- the entries of a key that are replaced twice

with_key_again : (k : KeyBytes) (new none : OfKey) (at : At) (q : KeyBytes) → with_key k new (with_key k none at) q ≡ with_key k new at q
with_key_again k new none at q = elim (is_key k q) as (λ b. cond b new (cond b none (at q)) ≡ cond b new (at q)) [ true ↦ refl | false ↦ refl ]

pub put_again : (k l : KeyBytes) (new then none : OfKey) (at : At) (q : KeyBytes) → k ≡ l → new ≡ then → with_key k new (with_key k none at) q ≡ with_key l then at q
put_again k l new then none at q e f = with_key_again k new none at q ∙ (λ j. with_key (e j) (f j) at q)

-- ---- one more entry

other_key : (a b : KeyBytes) → is_key a b ≡ false → is_key b a ≡ false
other_key a b h = elim (is_key b a) as (λ v. is_key b a ≡ v → v ≡ false) [
  | true ↦ λ t. absurd (true≢false (sym (key_itself a b (sym (same_key b a t))) ∙ h))
  | false ↦ λ _. refl
] refl

abbrev is_of : KeyBytes → StandingEntry → Bool
is_of k e = is_key k (key_of e)

of_key_push : (es : List StandingEntry) (e : StandingEntry) (q : KeyBytes) → filter (is_of q) (es ++ e ∷ []) ≡ filter (is_of q) es ++ cond (is_of q e) (e ∷ []) []
of_key_push es e q = filter-append (is_of q) es (e ∷ [])

pub by_key_push : (es : List StandingEntry) (e : StandingEntry) (q : KeyBytes) → with_entry e (by_key es) q ≡ by_key (es ++ e ∷ []) q
by_key_push es e q = elim (is_key (key_of e) q) as (λ b. is_key (key_of e) q ≡ b → cond b (record { known = filter (is_of (key_of e)) es ++ e ∷ []; ours = false }) (by_key es q) ≡ by_key (es ++ e ∷ []) q) [
  | true ↦ λ h.
      let k : key_of e ≡ q = same_key (key_of e) q h in
      (λ j. record { known = filter (is_of (k j)) es ++ e ∷ []; ours = false })
      ∙ (λ j. record { known = filter (is_of q) es ++ cond (sym (key_itself q (key_of e) (sym k)) j) (e ∷ []) []; ours = false })
      ∙ (λ j. record { known = sym (of_key_push es e q) j; ours = false })
  | false ↦ λ h.
      (λ j. record { known = sym (append-nil (filter (is_of q) es)) j; ours = false })
      ∙ (λ j. record { known = filter (is_of q) es ++ cond (sym (other_key (key_of e) q h) j) (e ∷ []) []; ours = false })
      ∙ (λ j. record { known = sym (of_key_push es e q) j; ours = false })
] refl

-- ---- a loop over the rows

-- the entries so far, followed by those of the remaining rows, are the entries of all rows
pub record KnowsAll (all rest : List MadeRow) (es : List StandingEntry) : Type 0 where
  pub completes : (more : List StandingEntry) → AreKnown (map row_seen rest) more → AreKnown (map row_seen all) (es ++ more)

pub knows_more : (all rest others : List MadeRow) (row : MadeRow) (es : List StandingEntry) (e : StandingEntry) → rest ≡ row ∷ others → IsKnown (row_seen row) e → KnowsAll all rest es → KnowsAll all others (es ++ e ∷ [])
knows_more all rest others row es e at is done = record {
  completes = λ more h.
      subst (AreKnown (map row_seen all)) (sym (append_assoc es (e ∷ []) more))
      (done.completes (e ∷ more) (subst (λ l. AreKnown (map row_seen l) (e ∷ more)) (sym at) (e, more, is, h, refl)));
}

pub knows_all : (all rest : List MadeRow) (es : List StandingEntry) → length rest ≡ 0 → KnowsAll all rest es → AreKnown (map row_seen all) es
knows_all all [] es e done = subst (AreKnown (map row_seen all)) (append-nil es) (done.completes [] refl)
knows_all all (row ∷ rest) es e done = absurd (omega arith)

-- ---- the rows that are not retired

pub standing_seen : (rs : List MadeRow) → map row_seen (filter (λ (r : MadeRow). stands (row_seen r)) rs) ≡ filter stands (map row_seen rs)
standing_seen [] = refl
standing_seen (r ∷ rs) =
    elim (stands (row_seen r)) as (λ b. map row_seen (cond b (r ∷ filter (λ (s : MadeRow). stands (row_seen s)) rs) (filter (λ (s : MadeRow). stands (row_seen s)) rs))
    ≡ cond b (row_seen r ∷ filter stands (map row_seen rs)) (filter stands (map row_seen rs))) [
      | true ↦ ap (λ k. row_seen r ∷ k) (standing_seen rs)
      | false ↦ standing_seen rs
    ]
