-- The entries of the rows that satisfy a predicate, extended one row at a time.
use Rattle.std.proofs.Common.{◌≡◌, List, [], ◌∷◌, ◌++◌, length, append_assoc, append-nil, sym, ap, ◌∙◌, subst, inl, inr, ◌⊎◌, arith}
use Rattle.std.proofs.lemmas.List.Elements.{Contains-append_left, Contains-append_right, Contains-append_cases}
use Rattle.std.specs.List.{Contains}
use Rattle.std.specs.declared.cmp.Ordering.{Ordering}
use Rattle.std.specs.declared.cmp.Ordering.TheVariants.{Less}
use Rattle.reg_op.specs.Set.{Ascends}
use Rattle.reg_op.specs.Ids.{Id, id_cmp}
use Rattle.reg_op.specs.Rows.{Row}
use Rattle.reg_report.proofs.ConflictLemmas.{none_in, in_cons, in_head, in_tail}
use Rattle.reg_report.specs.Rows.{row_cmp}
use Rattle.reg_keys.specs.Named.{IsEntry, AreEntries, AddsEntry}
use Rattle.reg_report.proofs.OrderLemmas.{before_it}
use Rattle.reg_report.proofs.RowLemmas.{row_total}

pub put_last : {K : Type 0} (R : K → K → Ordering) (xs : List K) (x : K) → Ascends R xs → ((y : K) → Contains xs y → R y x ≡ Less) → Ascends R (xs ++ x ∷ [])
put_last R [] x up h = tt
put_last R (a ∷ []) x up h = (h a (in_head a []), tt)
put_last R (a ∷ b ∷ xs) x up h = (up.0, put_last R (b ∷ xs) x up.1 (λ y c. h y (in_tail y a (b ∷ xs) c)))

module _ (P : Row → Type 0) where
  pub none_yet : AreEntries P [] []
  none_yet = record { ascend = tt; each = λ e. (λ h. absurd (none_in e h), λ (r, there, p, is). absurd (none_in r there)) }

  more : (rs others : List Row) (e : Id) → IsEntry P rs e → IsEntry P (rs ++ others) e
  more rs others e (r, there, p, is) = (r, Contains-append_left rs others r there, p, is)

  -- an entry of rs followed by r is an entry of rs, or it is the entry of r, and P holds for r
  fewer : (rs : List Row) (r : Row) (e : Id) → IsEntry P (rs ++ r ∷ []) e → IsEntry P rs e ⊎ (P r × (e ≡ r.entry))
  fewer rs r e (q, there, p, is) = elim (Contains-append_cases rs (r ∷ []) q there) [
    | inl before ↦ inl (q, before, p, is)
    | inr last ↦ elim (in_cons q r [] last) [
      | inl same ↦ inr (subst P same p, sym is ∙ ap (λ (t : Row). t.entry) same)
      | inr none ↦ absurd (none_in q none)
    ]
  ]

  module _ (rs : List Row) (r : Row) (others : List Row) (up : Ascends row_cmp (rs ++ r ∷ others)) (old : List Id) (are : AreEntries P rs old) where
    below : (y : Id) → IsEntry P rs y → id_cmp y r.entry ≡ Less
    below y (q, there, p, is) = subst (λ i. id_cmp i r.entry ≡ Less) is (before_it row_total rs r others up q there)

    added : P r → AreEntries P (rs ++ r ∷ []) (old ++ r.entry ∷ [])
    added has = record {
      ascend = put_last id_cmp old r.entry are.ascend (λ y h. below y ((are.each y).0 h));
      each = λ e. (
        λ h. elim (Contains-append_cases old (r.entry ∷ []) e h) [
          | inl there ↦ more rs (r ∷ []) e ((are.each e).0 there)
          | inr end ↦ elim (in_cons e r.entry [] end) [
            | inl same ↦ (r, Contains-append_right rs (r ∷ []) r (in_head r []), has, sym same)
            | inr none ↦ absurd (none_in e none)
          ]
        ],
        λ a. elim (fewer rs r e a) [
          | inl before ↦ Contains-append_left old (r.entry ∷ []) e ((are.each e).1 before)
          | inr now ↦ subst (Contains (old ++ r.entry ∷ [])) (sym now.1) (Contains-append_right old (r.entry ∷ []) r.entry (in_head r.entry []))
        ],
      );
    }

    left : ¬ (P r) → AreEntries P (rs ++ r ∷ []) old
    left not = record {
      ascend = are.ascend;
      each = λ e. (
        λ h. more rs (r ∷ []) e ((are.each e).0 h),
        λ a. elim (fewer rs r e a) [ inl before ↦ (are.each e).1 before | inr now ↦ absurd (not now.0) ],
      );
    }

    pub one_more : (new : List Id) → AddsEntry P r old new → AreEntries P (rs ++ r ∷ []) new
    one_more new (inl (has, e)) = subst (AreEntries P (rs ++ r ∷ [])) (sym e) (added has)
    one_more new (inr (not, e)) = subst (AreEntries P (rs ++ r ∷ [])) (sym e) (left not)

-- ---- a loop over the rows: `done` are those already read, `rest` the others

pub more_done : (all done rest others : List Row) (r : Row) → all ≡ done ++ rest → rest ≡ r ∷ others → all ≡ (done ++ r ∷ []) ++ others
more_done all done rest others r e f = e ∙ ap (λ t. done ++ t) f ∙ sym (append_assoc done (r ∷ []) others)

pub ascends_here : (all done rest others : List Row) (r : Row) → all ≡ done ++ rest → rest ≡ r ∷ others → Ascends row_cmp all → Ascends row_cmp (done ++ r ∷ others)
ascends_here all done rest others r e f up = subst (Ascends row_cmp) (e ∙ ap (λ t. done ++ t) f) up

pub all_done : (all done rest : List Row) → all ≡ done ++ rest → length rest ≡ 0 → done ≡ all
all_done all done [] e h = sym (append-nil done) ∙ sym e
all_done all done (r ∷ rest) e h = absurd (omega arith)
