-- After settling, kept texts of one key are equal, and the other entries of their keys are retired.
use Rattle.std.proofs.Common.{◌≡◌, ◌≢◌, ◌⊎◌, Bool, true, false, List, [], ◌∷◌, ◌++◌, refl, sym, ap, ◌∙◌, subst, inl, inr, append_assoc}
use Rattle.std.specs.Prelude.{Contains, Some}
use Rattle.std.specs.List.{list_any}
use Rattle.std.specs.Cmp.{tied_itself}
use Rattle.std.specs.Ordering.{is_eq}
use Rattle.std.proofs.lemmas.List.Elements.{Contains-append_cases, Contains-append_left, Contains-append_right}
use Rattle.reg_op.specs.Ids.{Id, is_same}
use Rattle.reg_op.specs.Rows.{Row}
use Rattle.reg_op.specs.declared.status.Status.TheVariants.{Retired}
use Rattle.reg_op.proofs.OpLemmas.{id_total, is_same_exact}
use Rattle.reg_report.proofs.ConflictLemmas.{none_in, in_cons, in_head, in_tail, any_of_member, member_of_any}
use Rattle.reg_report.proofs.FoundLemmas.{OneRow}
use Rattle.reg_disorder.specs.Settling.{SharesKey, Differs, Picks, IsKept, IsRival, Settles}

-- ---- the picked entries

pub picked : (P : Row → Type 0) (rs : List Row) (ids : List Id) (r : Row) → Picks P rs ids → Contains rs r → P r → Contains ids r.entry
picked P [] ids r h c p = absurd (none_in r c)
picked P (x ∷ xs) ids r (inl h) c p = elim (in_cons r x xs c) [
  | inl same ↦ subst (λ l. Contains l r.entry) (sym h.1.2) (subst (λ (z : Row). Contains (x.entry ∷ h.1.0) z.entry) (sym same) (in_head x.entry h.1.0))
  | inr later ↦ subst (λ l. Contains l r.entry) (sym h.1.2) (in_tail r.entry x.entry h.1.0 (picked P xs h.1.0 r h.1.1 later p))
]
picked P (x ∷ xs) ids r (inr h) c p = elim (in_cons r x xs c) [
  | inl same ↦ absurd (h.0 (subst (λ z. P z) same p))
  | inr later ↦ picked P xs ids r h.1 later p
]

pub picked_are : (P : Row → Type 0) (rs : List Row) (ids : List Id) (i : Id) → Picks P rs ids → Contains ids i → (r : Row) × Contains rs r × P r × (r.entry ≡ i)
picked_are P [] ids i h c = absurd (none_in i (subst (λ l. Contains l i) h c))
picked_are P (x ∷ xs) ids i (inl h) c = elim (in_cons i x.entry h.1.0 (subst (λ l. Contains l i) h.1.2 c)) [
  | inl same ↦ (x, in_head x xs, h.0, sym same)
  | inr later ↦ let r = picked_are P xs h.1.0 i h.1.1 later in (r.0, in_tail r.0 x xs r.1, r.2, r.3)
]
picked_are P (x ∷ xs) ids i (inr h) c = let r = picked_are P xs ids i h.1 c in (r.0, in_tail r.0 x xs r.1, r.2, r.3)

-- ---- the kept entries

pub is_in : (ids : List Id) (i : Id) → Contains ids i ⊎ (¬ (Contains ids i))
is_in ids i = by (list_any (is_same i) ids) refl
  where
    by : (t : Bool) → list_any (is_same i) ids ≡ t → Contains ids i ⊎ (¬ (Contains ids i))
    by true e = let m = member_of_any (is_same i) ids e in inl (subst (λ j. Contains ids j) (sym (is_same_exact i m.0 m.2)) m.1)
    by false e = inr (λ c. let yes : true ≡ false = sym (any_of_member (is_same i) ids i c (ap is_eq (tied_itself id_total i))) ∙ e in absurd cc)

stays : (rs : List Row) (keeps ks before retired all : List Id) (i : Id) → Settles rs keeps before ks retired all → Contains retired i → Contains all i
stays rs keeps [] before retired all i h c = subst (λ l. Contains l i) (sym h) c
stays rs keeps (k ∷ ks) before retired all i h c = stays rs keeps ks (before ++ k ∷ []) (retired ++ h.2.0) all i h.2.2 (Contains-append_left retired h.2.0 i c)

-- an entry that is not retired and has the key of a kept one is kept, or in the list of those that settling retires
pub covers : (rs : List Row) (keeps ks before retired all : List Id) → OneRow rs → Settles rs keeps before ks retired all → (keep r : Row) → Contains rs keep → Contains ks keep.entry
    → Contains rs r → r.status ≢ Some Retired → SharesKey keep r → Contains keeps r.entry ⊎ Contains all r.entry
covers rs keeps [] before retired all one h keep r there named c stands shares = absurd (none_in keep.entry named)
covers rs keeps (k ∷ ks) before retired all one h keep r there named c stands shares = elim (in_cons keep.entry k ks named) [
  | inr later ↦ covers rs keeps ks (before ++ k ∷ []) (retired ++ h.2.0) all one h.2.2 keep r there later c stands shares
  | inl same ↦ elim (is_in keeps r.entry) [
    | inl kept ↦ inl kept
    | inr other ↦ elim (is_in retired r.entry) [
      | inl gone ↦ inr (stays rs keeps (k ∷ ks) before retired all r.entry h gone)
      | inr left ↦
          let its : keep ≡ h.0 = one keep h.0 there h.1.there (same ∙ sym h.1.is) in
          let mine : Contains h.2.0 r.entry = picked (IsRival keeps retired h.0) rs h.2.0 r h.2.1 c
          (record { shares = subst (λ (z : Row). SharesKey z r) its shares; stands = stands; no_keep = other; left = left }) in
          inr (stays rs keeps ks (before ++ k ∷ []) (retired ++ h.2.0) all r.entry h.2.2 (Contains-append_right retired h.2.0 r.entry mine))
    ]
  ]
]

swapped : (one other : Row) → Differs one other → Differs other one
swapped one other d = record { shares = record { key = d.shares.key; of_one = d.shares.of_other; of_other = d.shares.of_one }; differ = λ e. d.differ (sym e) }

-- no two of these entries have one key and different texts
abbrev pub Agree : List Row → List Id → Type 0
Agree rs ks = (a b : Row) → Contains rs a → Contains rs b → Contains ks a.entry → Contains ks b.entry → ¬ (Differs a b)

agree_on : (rs : List Row) (before : List Id) (k : Id) (keep : Row) → OneRow rs → IsKept rs before k keep → Agree rs before → Agree rs (before ++ k ∷ [])
agree_on rs before k keep one kept agree a b ca cb na nb d = elim (Contains-append_cases before (k ∷ []) a.entry na) [
  | inl a_before ↦ elim (Contains-append_cases before (k ∷ []) b.entry nb) [
    | inl b_before ↦ agree a b ca cb a_before b_before d
    | inr b_last ↦
        let its : b ≡ keep = one b keep cb kept.there (last b.entry b_last ∙ sym kept.is) in
        kept.agrees (record { other = a; there = ca; takes = record { differs = subst (λ (z : Row). Differs a z) its d; kept = a_before } })
  ]
  | inr a_last ↦
      let its : a ≡ keep = one a keep ca kept.there (last a.entry a_last ∙ sym kept.is) in
      elim (Contains-append_cases before (k ∷ []) b.entry nb) [
        | inl b_before ↦ kept.agrees (record { other = b; there = cb; takes = record { differs = subst (λ (z : Row). Differs b z) its (swapped a b d); kept = b_before } })
        | inr b_last ↦ d.differ (ap (λ (z : Row). z.definition) (one a b ca cb (last a.entry a_last ∙ sym (last b.entry b_last))))
      ]
]
  where
    last : (i : Id) → Contains (k ∷ []) i → i ≡ k
    last i c = elim (in_cons i k [] c) [ inl same ↦ same | inr later ↦ absurd (none_in i later) ]

whole : (before : List Id) (i : Id) → Contains (before ++ []) i → Contains before i
whole before i c = elim (Contains-append_cases before [] i c) [
  | inl here ↦ here
  | inr never ↦ absurd (none_in i never)
]

pub all_agree : (rs : List Row) (keeps ks before retired all : List Id) → OneRow rs → Settles rs keeps before ks retired all → Agree rs before → Agree rs (before ++ ks)
all_agree rs keeps [] before retired all one h agree = λ a b ca cb na nb d. agree a b ca cb (whole before a.entry na) (whole before b.entry nb) d
all_agree rs keeps (k ∷ ks) before retired all one h agree =
    subst (λ l. Agree rs l) (append_assoc before (k ∷ []) ks)
    (all_agree rs keeps ks (before ++ k ∷ []) (retired ++ h.2.0) all one h.2.2 (agree_on rs before k h.0 one h.1 agree))
