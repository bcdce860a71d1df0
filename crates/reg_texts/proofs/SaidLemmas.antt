-- The statements that are gathered row by row are exactly those that the rows make.
use Rattle.std.proofs.Common.{◌≡◌, ◌↔◌, ◌⊎◌, ℕ, Bool, true, false, List, [], ◌∷◌, Option, Some, refl, ap, sym, ◌∙◌, subst, inl, inr}
use Rattle.std.specs.Prelude.{IsTrue}
use Rattle.std.specs.List.{Contains}
use Rattle.std.proofs.lemmas.Bool.{true≢false}
use Rattle.reg_op.specs.Ids.{Id}
use Rattle.reg_op.specs.Rows.{Row}
use Rattle.reg_op.specs.Set.{Ascends}
use Rattle.reg_report.specs.Conflicts.{KeyBytes, HasKey}
use Rattle.reg_report.proofs.ConflictLemmas.{none_in, in_cons, in_head, in_tail}
use Rattle.reg_report.proofs.ContenderLemmas.{one_key}
use Rattle.reg_report.specs.Rows.{row_cmp, HasRow}
use Rattle.reg_texts.specs.Said.{Said, IsLive, SaysStatus, SaysSuccessor, Says}
use Rattle.reg_texts.specs.Gathered.{IsOfSuccessor, IsSaidBy, AreOfRow, AreGathered}
use Rattle.reg_texts.proofs.EachLemmas.{given, gives_all}
use Rattle.reg_report.proofs.FoundLemmas.{one_row}

one_only : {Y : Type 0} (y z : Y) → Contains (z ∷ []) y → y ≡ z
one_only y z h = elim (in_cons y z [] h) [ inl e ↦ e | inr none ↦ absurd (none_in y none) ]

-- two tests of one proposition are equal
one_test : (P : Type 0) (a b : Bool) → IsTrue a ↔ P → IsTrue b ↔ P → a ≡ b
one_test P true true h k = refl
one_test P true false h k = absurd (true≢false (sym (k.1 (h.0 refl))))
one_test P false true h k = absurd (true≢false (sym (h.1 (k.0 refl))))
one_test P false false h k = refl

one_by : (text : List ℕ) (x y : Option KeyBytes) → (k : KeyBytes) × (x ≡ Some k) × HasKey text k → (k : KeyBytes) × (y ≡ Some k) × HasKey text k → x ≡ y
one_by text x y (k, e, h) (l, f, g) = e ∙ ap Some (one_key text k l h g) ∙ sym f

module _ (rs : List Row) (up : Ascends row_cmp rs) (r : Row) where
  -- ---- the statement about one successor

  abbrev HasSuccessor : Id → Said → Type 0
  HasSuccessor e s = (newer : Row) × HasRow rs e newer × IsLive newer × IsOfSuccessor r newer s

  same_successor : (newer : Row) (s t : Said) → IsOfSuccessor r newer s → IsOfSuccessor r newer t → s ≡ t
  same_successor newer s t a b =
      let key = one_key r.definition s.key t.key a.keyed b.keyed in
      let text : s.text ≡ t.text = a.text ∙ sym b.text in
      let valid : s.valid ≡ t.valid = a.superseded ∙ sym b.superseded in
      let by = one_by newer.definition s.by t.by a.by b.by in
      λ j. record { key = key j; text = text j; valid = valid j; by = by j }

  one_newer : (e : Id) (a b : Row) → HasRow rs e a → HasRow rs e b → a ≡ b
  one_newer e a b h k = one_row rs up a b h.there k.there (h.is ∙ sym k.is)

  said_by : (e : Id) (mine : List Said) → IsSaidBy rs r e mine → (s : Said) → Contains mine s ↔ HasSuccessor e s
  said_by e mine (inl (newer, has, inl (live, said))) s = (
    λ h.
        let same : s ≡ said.0 = one_only s said.0 (subst (λ l. Contains l s) said.2 h) in
        (newer, has, live, subst (IsOfSuccessor r newer) (sym same) said.1),
    λ (other, has_other, live_other, of).
        let same : s ≡ said.0 = same_successor newer s said.0 (subst (λ q. IsOfSuccessor r q s) (one_newer e other newer has_other has) of) said.1 in
        subst (λ l. Contains l s) (sym said.2) (subst (Contains (said.0 ∷ [])) (sym same) (in_head said.0 [])),
  )
  said_by e mine (inl (newer, has, inr (gone, none))) s = (
    λ h. absurd (none_in s (subst (λ l. Contains l s) none h)),
    λ (other, has_other, live_other, of). absurd (gone (subst IsLive (one_newer e other newer has_other has) live_other)),
  )
  said_by e mine (inr (no_row, none)) s = (
    λ h. absurd (none_in s (subst (λ l. Contains l s) none h)),
    λ (other, has_other, live_other, of). absurd (no_row other has_other),
  )

  -- ---- the statements about one row

  abbrev SaysOf : Said → Type 0
  SaysOf s = SaysStatus r s ⊎ SaysSuccessor rs r s

  same_status : (s t : Said) → SaysStatus r s → SaysStatus r t → s ≡ t
  same_status s t a b =
      let key = one_key r.definition s.key t.key a.of.keyed b.of.keyed in
      let text : s.text ≡ t.text = a.of.text ∙ sym b.of.text in
      let valid = one_test _ s.valid t.valid a.status b.status in
      let by : s.by ≡ t.by = a.by ∙ sym b.by in
      λ j. record { key = key j; text = text j; valid = valid j; by = by j }

  of_row : (mine : List Said) → AreOfRow rs r mine → (s : Said) → Contains mine s ↔ SaysOf s
  of_row mine (inl (live, (first, later, status, each, is))) s = (
    λ h. elim (in_cons s first later (subst (λ l. Contains l s) is h)) [
      | inl same ↦ inl (subst (SaysStatus r) (sym same) status)
      | inr after ↦
          let g = given (IsSaidBy rs r) HasSuccessor said_by r.newer later each s after in
          let entry = g.0 in
          let has = g.2 in
          inr (record {
            of = record { live = live; text = has.3.text; keyed = has.3.keyed };
            superseded = has.3.superseded;
            newer = has.0;
            there = has.1.there;
            supersedes = subst (Contains r.newer) (sym has.1.is) g.1;
            live = has.2;
            by = has.3.by;
          })
    ],
    λ says. subst (λ l. Contains l s) (sym is) (elim says [
      | inl now ↦ subst (Contains (first ∷ later)) (same_status first s status now) (in_head first later)
      | inr other ↦
          in_tail s first later (gives_all (IsSaidBy rs r) HasSuccessor said_by r.newer later each s other.newer.entry other.supersedes (
            other.newer,
            record { there = other.there; is = refl },
            other.live,
            record { text = other.of.text; keyed = other.of.keyed; superseded = other.superseded; by = other.by },
          ))
    ]),
  )
  of_row mine (inr (gone, none)) s = (
    λ h. absurd (none_in s (subst (λ l. Contains l s) none h)),
    λ says. absurd (elim says [ inl now ↦ gone now.of.live | inr other ↦ gone other.of.live ]),
  )

-- ---- the statements about all rows

pub gathered : (rs : List Row) → Ascends row_cmp rs → (all : List Said) → AreGathered rs all → (s : Said) → Contains all s ↔ Says rs s
gathered rs up all are s = (
  λ h. given (AreOfRow rs) (λ r s. SaysOf rs up r s) (λ r mine are s. of_row rs up r mine are s) rs all are s h,
  λ (r, there, says). gives_all (AreOfRow rs) (λ r s. SaysOf rs up r s) (λ r mine are s. of_row rs up r mine are s) rs all are s r there says,
)
