-- Marks, gathered row by row.
use Rattle.std.proofs.Common.{◌≡◌, ◌↔◌, ◌⊎◌, ◌++◌, ℕ, Bool, true, false, not, IsTrue, List, [], ◌∷◌, Option, Some, None, refl, ap, sym, ◌∙◌, subst, inl, inr}
use Rattle.std.specs.List.{Contains}
use Rattle.std.proofs.lemmas.Bool.{true≢false}
use Rattle.std.proofs.lemmas.List.Elements.{Contains-append_left, Contains-push, Contains-push_cases}
use Rattle.reg_op.specs.Ids.{Id}
use Rattle.reg_op.specs.Rows.{Row}
use Rattle.reg_op.specs.Set.{Ascends}
use Rattle.std.specs.Ordering.{is_eq}
use Rattle.reg_report.specs.Conflicts.{KeyBytes, key_cmp, HasKey}
use Rattle.reg_report.specs.Exports.{is_retired}
use Rattle.reg_report.specs.Rows.{row_cmp, HasRow}
use Rattle.reg_report.proofs.ConflictLemmas.{none_in, key_total, key_exact}
use Rattle.reg_report.proofs.ContenderLemmas.{one_key}
use Rattle.reg_report.proofs.FoundLemmas.{one_row}
use Rattle.reg_disorder.proofs.ListLemmas.{exact_of}
use Rattle.reg_disorder.specs.Marks.{Mark, IsOwn, IsBy, Succeeds, IsMarkBy, OfSome, Gains}

pub gains_none : (P : Mark → Type 0) (ms : List Mark) → ((m : Mark) → ¬ (P m)) → Gains P ms ms
gains_none P ms never m = (λ h. inl h, λ h. elim h [ inl old ↦ old | inr p ↦ absurd (never m p) ])

pub gains_one : (P : Mark → Type 0) (ms : List Mark) (x : Mark) → P x → ((m : Mark) → P m → m ≡ x) → Gains P ms (ms ++ x ∷ [])
gains_one P ms x has only m = (
  λ h. elim (Contains-push_cases ms x m h) [ inl old ↦ inl old | inr last ↦ inr (subst P last has) ],
  λ h. elim h [ inl old ↦ Contains-append_left ms (x ∷ []) m old | inr p ↦ subst (Contains (ms ++ x ∷ [])) (sym (only m p)) (Contains-push ms x) ],
)

pub gains_both : (P Q : Mark → Type 0) (a b c : List Mark) → Gains P a b → Gains Q b c → Gains (λ m. P m ⊎ Q m) a c
gains_both P Q a b c f g m = (
  λ h. elim ((g m).0 h) [
    | inl in_b ↦ elim ((f m).0 in_b) [ inl in_a ↦ inl in_a | inr p ↦ inr (inl p) ]
    | inr q ↦ inr (inr q)
  ],
  λ h. elim h [
    | inl in_a ↦ (g m).1 (inl ((f m).1 (inl in_a)))
    | inr both ↦ elim both [ inl p ↦ (g m).1 (inl ((f m).1 (inr p))) | inr q ↦ (g m).1 (inr q) ]
  ],
)

module _ {X : Type 0} (F : X → Mark → Type 0) where
  pub some_none : (ms : List Mark) → Gains (OfSome F []) ms ms
  some_none ms = gains_none (OfSome F []) ms (λ m some. none_in some.0 some.1)

  pub some_more : (xs : List X) (x : X) (a b c : List Mark) → Gains (OfSome F xs) a b → Gains (F x) b c → Gains (OfSome F (xs ++ x ∷ [])) a c
  some_more xs x a b c f g m = (
    λ h. elim ((g m).0 h) [
      | inl in_b ↦ elim ((f m).0 in_b) [ inl in_a ↦ inl in_a | inr some ↦ inr (some.0, Contains-append_left xs (x ∷ []) some.0 some.1, some.2) ]
      | inr one ↦ inr (x, Contains-push xs x, one)
    ],
    λ h. elim h [
      | inl in_a ↦ (g m).1 (inl ((f m).1 (inl in_a)))
      | inr some ↦ elim (Contains-push_cases xs x some.0 some.1) [
        | inl early ↦ (g m).1 (inl ((f m).1 (inr (some.0, early, some.2))))
        | inr last ↦ (g m).1 (inr (subst (λ z. F z m) (sym last) some.2))
      ]
    ],
  )

-- ---- whether a row succeeds another

pub succeeds_is : (r newer : Row) (a b : KeyBytes) (e : Bool) → HasKey r.definition a → HasKey newer.definition b → is_retired newer.status ≡ false → e ≡ is_eq (key_cmp a b) → IsTrue (not e) ↔ Succeeds r newer
succeeds_is r newer a b true ka kb stands e = (
  λ h. absurd (true≢false (sym h)),
  λ s. absurd (s.differs a ka (subst (HasKey newer.definition) (sym ((exact_of key_total key_exact a b).0 (sym e))) kb)),
)
succeeds_is r newer a b false ka kb stands e = (
  λ h. record {
    stands = stands;
    differs = λ k kr kn. true≢false (sym ((exact_of key_total key_exact a b).1 (one_key r.definition a k ka kr ∙ one_key newer.definition k b kn kb)) ∙ sym e);
  },
  λ s. refl,
)

-- ---- a row has one mark of its own, and one by each successor

one_test : (P : Type 0) (a b : Bool) → IsTrue a ↔ P → IsTrue b ↔ P → a ≡ b
one_test P true true h k = refl
one_test P true false h k = absurd (true≢false (sym (k.1 (h.0 refl))))
one_test P false true h k = absurd (true≢false (sym (h.1 (k.0 refl))))
one_test P false false h k = refl

one_by : (text : List ℕ) (x y : Option KeyBytes) → (k : KeyBytes) × (x ≡ Some k) × HasKey text k → (k : KeyBytes) × (y ≡ Some k) × HasKey text k → x ≡ y
one_by text x y (k, e, h) (l, f, g) = e ∙ ap Some (one_key text k l h g) ∙ sym f

pub one_own : (r : Row) (m n : Mark) → IsOwn r m → IsOwn r n → m ≡ n
one_own r m n a b =
    let key : m.key ≡ n.key = one_key r.definition m.key n.key a.key b.key in
    let live : m.live ≡ n.live = a.live ∙ sym b.live in
    let superseded : m.superseded ≡ n.superseded = one_test _ m.superseded n.superseded a.superseded b.superseded in
    let by : m.by ≡ n.by = a.by ∙ sym b.by in
    λ j. record { key = key j; live = live j; superseded = superseded j; by = by j }

one_mark_by : (r newer : Row) (m n : Mark) → IsBy r newer m → IsBy r newer n → m ≡ n
one_mark_by r newer m n a b =
    let key : m.key ≡ n.key = one_key r.definition m.key n.key a.key b.key in
    let live : m.live ≡ n.live = a.live ∙ sym b.live in
    let superseded : m.superseded ≡ n.superseded = a.superseded ∙ sym b.superseded in
    let by : m.by ≡ n.by = one_by newer.definition m.by n.by a.by b.by in
    λ j. record { key = key j; live = live j; superseded = superseded j; by = by j }

module _ (rs : List Row) (up : Ascends row_cmp rs) (r : Row) (e : Id) (newer : Row) (has : HasRow rs e newer) where
  newer_is : (other : Row) → HasRow rs e other → other ≡ newer
  newer_is other h = one_row rs up other newer h.there has.there (h.is ∙ sym has.is)

  pub not_by : (¬ (Succeeds r newer)) → (m : Mark) → ¬ (IsMarkBy rs r e m)
  not_by never m (other, h, succeeds, by) = never (subst (Succeeds r) (newer_is other h) succeeds)

  pub only_by : (x : Mark) → IsBy r newer x → (m : Mark) → IsMarkBy rs r e m → m ≡ x
  only_by x is m (other, h, succeeds, by) = one_mark_by r newer m x (subst (λ q. IsBy r q m) (newer_is other h) by) is

-- marks that were gathered from nothing are exactly those of P
pub gains_all : (P : Mark → Type 0) (ms : List Mark) → Gains P [] ms → (m : Mark) → Contains ms m ↔ P m
gains_all P ms g m = (
  λ h. elim ((g m).0 h) [ inl none ↦ absurd (none_in m none) | inr p ↦ p ],
  λ p. (g m).1 (inr p),
)
