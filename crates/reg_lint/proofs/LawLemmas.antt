-- Rows, and the texts that they are of.
use Rattle.std.proofs.Common.{◌≡◌, ◌↔◌, false, ℕ, Some, None, List, [], ◌∷◌, refl, sym, ap, ◌∙◌, subst, inl, inr}
use Rattle.std.proofs.lemmas.Bool.{true≢false}
use Rattle.std.specs.List.{Contains}
use Rattle.crs_sense.specs.declared.rule.Rule.{Rule}
use Rattle.wkt_crs.specs.Spells.{Spells}
use Rattle.wkt_crs.proofs.Texts.{one_value}
use Rattle.reg_op.specs.Contents.{Content}
use Rattle.reg_op.specs.Rows.{Row, rows}
use Rattle.reg_report.proofs.ConflictLemmas.{none_in, in_cons, in_head, in_tail}
use Rattle.reg_lint.specs.Subjects.{Subject}
use Rattle.reg_lint.specs.Subjects.{is_retired, IsLiveOf, AreLive, AreLiveIn}
use Rattle.reg_lint.specs.Laws.{IsLiveText, HaveSameTexts, Breaks, Tells, HasRow}

-- what is looked at is of a row
row_of : (rs : List Row) (ss : List Subject) → AreLive rs ss → (s : Subject) → Contains ss s → (r : Row) × Contains rs r × IsLiveOf r (Some s)
row_of [] ss none s h = absurd (none_in s (subst (λ l. Contains l s) none h))
row_of (r ∷ rs) ss (None, rest, is, more, e) s h =
    let f = row_of rs rest more s (subst (λ l. Contains l s) e h) in (f.0, in_tail f.0 r rs f.1, f.2)
row_of (r ∷ rs) ss (Some x, rest, is, more, e) s h = elim (in_cons s x rest (subst (λ l. Contains l s) e h)) [
  | inl same ↦ (r, in_head r rs, subst (λ y. IsLiveOf r (Some y)) (sym same) is)
  | inr later ↦ let f = row_of rs rest more s later in (f.0, in_tail f.0 r rs f.1, f.2)
]

-- and each row that is not retired is looked at
subject_of : (rs : List Row) (ss : List Subject) → AreLive rs ss → (r : Row) → Contains rs r → is_retired r.status ≡ false → (s : Subject) × Contains ss s × IsLiveOf r (Some s)
subject_of [] ss none r h live = absurd (none_in r h)
subject_of (q ∷ rs) ss (None, rest, is, more, e) r h live = elim (in_cons r q rs h) [
  | inl same ↦ absurd (true≢false (sym is ∙ ap (λ x. is_retired x.status) (sym same) ∙ live))
  | inr later ↦ let f = subject_of rs rest more r later live in (f.0, subst (λ l. Contains l f.0) (sym e) f.1, f.2)
]
subject_of (q ∷ rs) ss (Some x, rest, is, more, e) r h live = elim (in_cons r q rs h) [
  | inl same ↦ (x, subst (λ l. Contains l x) (sym e) (in_head x rest), subst (λ y. IsLiveOf y (Some x)) (sym same) is)
  | inr later ↦ let f = subject_of rs rest more r later live in (f.0, subst (λ l. Contains l f.0) (sym e) (in_tail f.0 x rest f.1), f.2)
]

told_of : (x : Content) (ss : List Subject) → AreLiveIn x ss → (rule : Rule) (authority code : List ℕ) → HasRow ss rule authority code → Tells x rule authority code
told_of x ss are rule authority code h =
    let f = row_of (rows x.ops) ss are h.subject h.there in
    record {
      text = f.0.definition;
      there = record { row = f.0; there = f.1; live = f.2.0; is = refl };
      crs = h.subject.crs;
      spelled = f.2.2;
      breaks = h.breaks;
    }

row_for : (x : Content) (ss : List Subject) → AreLiveIn x ss → (rule : Rule) (authority code : List ℕ) → Tells x rule authority code → HasRow ss rule authority code
row_for x ss are rule authority code t =
    let f = subject_of (rows x.ops) ss are t.there.row t.there.there t.there.live in
    let same : f.0.crs ≡ t.crs = one_value t.text f.0.crs t.crs (subst (λ (text : List ℕ). Spells text f.0.crs) t.there.is f.2.2.1) t.spelled.1 in
    record { subject = f.0; there = f.1; breaks = subst (Breaks rule authority code) (sym same) t.breaks }

pub rows_told : (x : Content) (ss : List Subject) → AreLiveIn x ss → (rule : Rule) (authority code : List ℕ) → HasRow ss rule authority code ↔ Tells x rule authority code
rows_told x ss are rule authority code = (told_of x ss are rule authority code, row_for x ss are rule authority code)

moved : (x y : Content) → ((text : List ℕ) → IsLiveText x text → IsLiveText y text) → (rule : Rule) (authority code : List ℕ) → Tells x rule authority code → Tells y rule authority code
moved x y h rule authority code t = record { text = t.text; there = h t.text t.there; crs = t.crs; spelled = t.spelled; breaks = t.breaks }

pub same_rows : (x y : Content) (ss ts : List Subject) → HaveSameTexts x y → AreLiveIn x ss → AreLiveIn y ts → (rule : Rule) (authority code : List ℕ) → HasRow ss rule authority code ↔ HasRow ts rule authority code
same_rows x y ss ts same are also rule authority code = (
  λ h. row_for y ts also rule authority code (moved x y (λ text. (same text).0) rule authority code (told_of x ss are rule authority code h)),
  λ h. row_for x ss are rule authority code (moved y x (λ text. (same text).1) rule authority code (told_of y ts also rule authority code h)),
)
