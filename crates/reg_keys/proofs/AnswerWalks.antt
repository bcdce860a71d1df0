-- The first rows that answer a word, one row after another.
use Rattle.std.proofs.Common.{◌≡◌, ◌≢◌, ℕ, true, List, [], ◌∷◌, ◌++◌, refl, sym, ap, ◌∙◌, subst, inl, inr, append_assoc, append-nil}
use Rattle.std.proofs.lemmas.Bool.{false_from_ne_true}
use Rattle.std.proofs.lemmas.List.Elements.{Contains-append_right, Contains-append_cases, Contains-push_cases}
use Rattle.std.specs.List.{Contains}
use Rattle.reg_op.specs.Set.{Ascends}
use Rattle.reg_op.specs.Ids.{Id, is_before}
use Rattle.reg_op.specs.Rows.{Row}
use Rattle.reg_report.proofs.ConflictLemmas.{none_in, in_cons, in_head}
use Rattle.reg_report.specs.Rows.{row_cmp}
use Rattle.reg_keys.specs.Named.{Answers, AllHave, IsLeast, IsOther, IsFirstAnswer, IsFirstOther}
use Rattle.reg_report.proofs.RowLemmas.{in_front}

-- ---- rows that were passed

-- P holds of each row before `rest`
abbrev pub Passed : (Row → Type 0) → List Row → List Row → Type 0
Passed P all rest = (before : List Row) × (all ≡ before ++ rest) × ((r : Row) → Contains before r → P r)

pub none_passed : (P : Row → Type 0) (all : List Row) → Passed P all all
none_passed P all = ([], refl, λ r h. absurd (none_in r h))

pub passed_more : (P : Row → Type 0) (all rest others : List Row) (x : Row) → rest ≡ x ∷ others → P x → Passed P all rest → Passed P all others
passed_more P all rest others x e p (before, is, each) = (
  before ++ x ∷ [],
  is ∙ ap (λ l. before ++ l) e ∙ sym (append_assoc before (x ∷ []) others),
  λ r h. elim (Contains-push_cases before x r h) [ inl early ↦ each r early | inr last ↦ subst P last p ],
)

pub all_passed : (P : Row → Type 0) (all rest : List Row) → rest ≡ [] → Passed P all rest → (r : Row) → Contains all r → P r
all_passed P all rest e (before, is, each) r h = each r (subst (λ l. Contains l r) (is ∙ ap (λ l. before ++ l) e ∙ append-nil before) h)

pub first_here : (word : List ℕ) (all rest others : List Row) (x : Row) → rest ≡ x ∷ others → Answers word x → Passed (λ r. ¬ (Answers word r)) all rest → IsFirstAnswer word all x others
first_here word all rest others x e p (before, is, each) = (before, is ∙ ap (λ l. before ++ l) e, p, each)

pub other_here : (word text : List ℕ) (all rest others : List Row) (x : Row) → rest ≡ x ∷ others → Answers word x → x.definition ≢ text → Passed (λ r. Answers word r → r.definition ≡ text) all rest → IsFirstOther word text all x.entry
other_here word text all rest others x e p differs (before, is, each) = (before, x, others, is ∙ ap (λ l. before ++ l) e, p, differs, refl, each)

-- ---- the least row that answers

module _ (rs : List Row) (up : Ascends row_cmp rs) (word : List ℕ) (first : Row) (later : List Row) (f : IsFirstAnswer word rs first later) where
  pub is_least : IsLeast rs word first
  is_least = record {
    there = subst (λ l. Contains l first) (sym f.1) (Contains-append_right f.0 (first ∷ later) first (in_head first later));
    answers = f.2;
    first = λ r h a. false_from_ne_true _ (λ b. f.3 r (in_front f.0 later first (subst (Ascends row_cmp) f.1 up) r (subst (λ l. Contains l r) f.1 h) b) a);
  }

  -- a row that answers is the first, or one of those after it
  from_first : (r : Row) → Contains rs r → Answers word r → Contains (first ∷ later) r
  from_first r h a = elim (Contains-append_cases f.0 (first ∷ later) r (subst (λ l. Contains l r) f.1 h)) [
    | inl early ↦ absurd (f.3 r early a)
    | inr late ↦ late
  ]

  pub one_text : AllHave first.definition later word → AllHave first.definition rs word
  one_text all r h a = elim (in_cons r first later (from_first r h a)) [
    | inl same ↦ ap (λ (q : Row). q.definition) same
    | inr late ↦ all r late a
  ]

  pub is_other : (i : Id) → IsFirstOther word first.definition later i → IsOther rs word i
  is_other i (before, other, after, is, answers, differs, entry, all) =
      let front : List Row = f.0 ++ first ∷ before in
      let whole : rs ≡ front ++ other ∷ after = f.1 ∙ ap (λ l. f.0 ++ first ∷ l) is ∙ sym (append_assoc f.0 (first ∷ before) (other ∷ after)) in
      record {
        least = first;
        is_least = is_least;
        other = other;
        there = subst (λ l. Contains l other) (sym whole) (Contains-append_right front (other ∷ after) other (in_head other after));
        answers = answers;
        is = entry;
        differs = differs;
        first = λ r h a b.
            let early = in_front front after other (subst (Ascends row_cmp) whole up) r (subst (λ l. Contains l r) whole h) (subst (λ j. is_before r.entry j ≡ true) (sym entry) b) in
            elim (Contains-append_cases f.0 (first ∷ before) r early) [
              | inl never ↦ absurd (f.3 r never a)
              | inr late ↦ elim (in_cons r first before late) [
                | inl same ↦ ap (λ (q : Row). q.definition) same
                | inr between ↦ all r between a
              ]
            ];
      }
