-- Among rows by entry, a row that is not retired is a double exactly if an earlier such row has its text.
use Rattle.std.proofs.Common.{◌≡◌, ◌≢◌, ◌⊎◌, ℕ, Bool, true, false, not, cond, List, [], ◌∷◌, ◌++◌, append_assoc, refl, sym, ap, ◌∙◌, subst, inl, inr}
use Rattle.std.specs.Prelude.{◌↔◌, IsTrue, Contains, Some}
use Rattle.std.specs.Borrow.{Bor}
use Rattle.std.specs.BTreeSet.{BTreeSet}
use Rattle.std.specs.List.{list_any}
use Rattle.std.specs.Cmp.{Equal-is, tied_itself}
use Rattle.std.specs.Cmp.Lexicographic.{slice_cmp}
use Rattle.std.specs.Ordering.{nat_cmp, is_eq, is_lt}
use Rattle.std.proofs.lemmas.Cmp.{nat_list_cmp_total}
use Rattle.std.proofs.lemmas.List.Elements.{Contains-append_cases, Contains-append_left, Contains-append_right}
use Rattle.std.proofs.Math.Bool.{not-not}
use Rattle.reg_op.specs.Rows.{Row}
use Rattle.reg_op.specs.Set.{Ascends}
use Rattle.reg_op.specs.declared.status.Status.TheVariants.{Retired}
use Rattle.reg_op.proofs.OpLemmas.{bytes_exact}
use Rattle.reg_report.specs.Rows.{row_cmp}
use Rattle.reg_report.proofs.ConflictLemmas.{none_in, in_cons, in_head}
use Rattle.reg_report.proofs.OrderLemmas.{before_it}
use Rattle.reg_report.proofs.RowLemmas.{row_total, in_front}
use Rattle.reg_disorder.specs.Doubles.{IsDouble}
use Rattle.reg_disorder.specs.SettledTexts.{HasText, HasTexts, bytes_cmp}

pub double_is : (all done rest others : List Row) (r : Row) (t : Bool) → all ≡ done ++ rest → rest ≡ r ∷ others → Ascends row_cmp all → IsTrue t ↔ ((r.status ≢ Some Retired) × HasText done r.definition) → IsTrue t ↔ IsDouble all r
double_is all done rest others r t e f up is =
    let whole : all ≡ done ++ r ∷ others = e ∙ ap (λ l. done ++ l) f in
    let rises : Ascends row_cmp (done ++ r ∷ others) = subst (Ascends row_cmp) whole up in (
      λ yes.
          let h = is.0 yes in
          let x = (h.1).row in
          record {
            stands = h.0;
            lesser = record {
              lesser = x;
              there = subst (λ l. Contains l x) (sym whole) (Contains-append_left done (r ∷ others) x (h.1).there);
              is = record { stands = (h.1).stands; text = (h.1).is; before = ap is_lt (before_it row_total done r others rises x (h.1).there) };
            };
          },
      λ d.
          let l = d.lesser in
          is.1 (d.stands, record { row = l.lesser; there = in_front done others r rises l.lesser (subst (λ s. Contains s l.lesser) whole l.there) (l.is).before; stands = (l.is).stands; is = (l.is).text }),
    )

-- ---- one more row

pub more_done : (all done rest others : List Row) (r : Row) → all ≡ done ++ rest → rest ≡ r ∷ others → all ≡ (done ++ r ∷ []) ++ others
more_done all done rest others r e f = e ∙ ap (λ l. done ++ l) f ∙ sym (append_assoc done (r ∷ []) others)

widened : (done : List Row) (r : Row) (t : List ℕ) → HasText done t → HasText (done ++ r ∷ []) t
widened done r t h = record { row = h.row; there = Contains-append_left done (r ∷ []) h.row h.there; stands = h.stands; is = h.is }

in_either : (done : List Row) (r : Row) (t : List ℕ) → HasText (done ++ r ∷ []) t → HasText done t ⊎ ((r.status ≢ Some Retired) × (r.definition ≡ t))
in_either done r t h = elim (Contains-append_cases done (r ∷ []) h.row h.there) [
  | inl early ↦ inl (record { row = h.row; there = early; stands = h.stands; is = h.is })
  | inr last ↦ elim (in_cons h.row r [] last) [
    | inl same ↦ inr (subst (λ (q : Row). q.status ≢ Some Retired) same h.stands, subst (λ (q : Row). q.definition ≡ t) same h.is)
    | inr never ↦ absurd (none_in h.row never)
  ]
]

-- inserting the text of r, which is not retired, into the texts of `done` gives the texts of `done` and r
pub one_added : (done : List Row) (r : Row) (bytes t : List ℕ) (old new : Bool) → r.status ≢ Some Retired → bytes ≡ r.definition → new ≡ cond (is_eq (slice_cmp nat_cmp bytes t)) true old → IsTrue old ↔ HasText done t
    → IsTrue new ↔ HasText (done ++ r ∷ []) t
one_added done r bytes t old new stands own e is = by (is_eq (slice_cmp nat_cmp bytes t)) refl
  where
    by : (b : Bool) → is_eq (slice_cmp nat_cmp bytes t) ≡ b → IsTrue new ↔ HasText (done ++ r ∷ []) t
    by true same = (
      λ _. record {
        row = r;
        there = Contains-append_right done (r ∷ []) r (in_head r []);
        stands = stands;
        is = sym own ∙ bytes_exact bytes t ((Equal-is (slice_cmp nat_cmp bytes t)).0 same);
      },
      λ _. e ∙ (λ j. cond (same j) true old),
    )
    by false other =
        let stays : new ≡ old = e ∙ (λ j. cond (other j) true old) in (
          λ yes. widened done r t (is.0 (sym stays ∙ yes)),
          λ h. elim (in_either done r t h) [
            | inl early ↦ stays ∙ is.1 early
            | inr last ↦
                let yes : is_eq (slice_cmp nat_cmp bytes t) ≡ true = subst (λ u. is_eq (slice_cmp nat_cmp bytes u) ≡ true) (own ∙ last.1) (ap is_eq (tied_itself nat_list_cmp_total bytes)) in
                let no : true ≡ false = sym yes ∙ other in
                absurd cc
          ],
        )

pub none_put_in : (set : BTreeSet (Bor (List ℕ))) → set.keys ≡ [] → HasTexts set []
none_put_in set e q = (
  λ yes. let no : true ≡ false = sym yes ∙ ap (λ l. list_any (λ k. is_eq (bytes_cmp q k)) l) e in absurd cc,
  λ h. absurd (none_in h.row h.there),
)

-- inserting the text of r adds nothing exactly if an earlier row that is not retired has it
pub again_is : (done : List Row) (r : Row) (bytes : List ℕ) (added old : Bool) → added ≡ not old → bytes ≡ r.definition → r.status ≢ Some Retired → IsTrue old ↔ HasText done bytes
    → IsTrue (not added) ↔ ((r.status ≢ Some Retired) × HasText done r.definition)
again_is done r bytes added old e own stands is =
    let back : not added ≡ old = ap not e ∙ not-not old in (
      λ yes. (stands, subst (HasText done) own (is.0 (sym back ∙ yes))),
      λ h. back ∙ is.1 (subst (HasText done) (sym own) h.1),
    )
