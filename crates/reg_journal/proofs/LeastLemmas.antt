-- The least id that passes a test.
use Rattle.std.proofs.Common.{◌≡◌, Bool, true, false, ◌||◌, Option, Some, None, refl, sym, ap, ◌∙◌, subst, inl, inr}
use Rattle.std.proofs.lemmas.Bool.{true≢false, or_cases, or_left, or_right, false_from_ne_true}
use Rattle.std.specs.Ordering.{is_lt, is_gt, ordering_reverse}
use Rattle.std.specs.Cmp.{upto}
use Rattle.std.specs.declared.cmp.Ordering.{Ordering}
use Rattle.std.specs.declared.cmp.Ordering.TheVariants.{Less, Equal, Greater}
use Rattle.reg_op.specs.Ids.{Id, id_cmp, is_before}
use Rattle.reg_op.proofs.OpLemmas.{id_total, not_before_itself}
use Rattle.reg_op.proofs.ClashLemmas.{lt_id_itself}
use Rattle.reg_journal.specs.Standing.{Leasts}

lt_turned : (r : Ordering) → is_lt (ordering_reverse r) ≡ is_gt r
lt_turned Less = refl
lt_turned Equal = refl
lt_turned Greater = refl

turned : (a b : Id) → is_before a b ≡ is_gt (id_cmp b a)
turned a b = ap is_lt (id_total.antisymm a b) ∙ lt_turned (id_cmp b a)

-- if a is not before b, and b not before c, then a is not before c
not_before_chain : (a b c : Id) → is_before a b ≡ false → is_before b c ≡ false → is_before a c ≡ false
not_before_chain a b c h k = turned a c ∙ upto id_total c b a (sym (turned b c) ∙ k) (sym (turned a b) ∙ h)

-- a is before b, so b is not before a
not_back : (a b : Id) → is_before a b ≡ true → is_before b a ≡ false
not_back a b h = false_from_ne_true _ (λ k. not_before_itself a (before_chain a b a h k))
  where
    less : (r : Ordering) → is_lt r ≡ true → r ≡ Less
    less Less h = refl
    less r h = cc

    before_chain : (a b c : Id) → is_before a b ≡ true → is_before b c ≡ true → is_before a c ≡ true
    before_chain a b c h k = ap is_lt (id_total.trans a b c (less _ h) (less _ k))

pub leasts_same : (t u : Id → Bool) → ((i : Id) → t i ≡ u i) → (r : Option Id) → Leasts t r → Leasts u r
leasts_same t u same None h = λ i. sym (same i) ∙ h i
leasts_same t u same (Some id) h = record { passes = sym (same id) ∙ h.passes; least = λ i k. h.least i (same i ∙ k) }

-- the id is the only one that may pass, and it does, or does not
pub only_one : (t : Id → Bool) (id : Id) → t id ≡ true → ((i : Id) → t i ≡ true → i ≡ id) → Leasts t (Some id)
only_one t id h only = record { passes = h; least = λ i k. subst (λ j. is_before j id ≡ false) (sym (only i k)) (lt_id_itself id) }

pub not_one : (t : Id → Bool) (id : Id) → t id ≡ false → ((i : Id) → t i ≡ true → i ≡ id) → Leasts t None
not_one t id h only = λ i. false_from_ne_true _ (λ k. true≢false (sym (subst (λ j. t j ≡ true) (only i k) k) ∙ h))

-- the first is no later than the second
pub leasts_first : (t u : Id → Bool) (a b : Id) → Leasts t (Some a) → Leasts u (Some b) → is_before b a ≡ false → Leasts (λ i. t i || u i) (Some a)
leasts_first t u a b h k first = record {
  passes = or_left (t a) (u a) h.passes;
  least = λ i c. elim (or_cases (t i) (u i) c) [
    | inl e ↦ h.least i e
    | inr e ↦ not_before_chain i b a (k.least i e) first
  ];
}

-- the second is before the first
pub leasts_second : (t u : Id → Bool) (a b : Id) → Leasts t (Some a) → Leasts u (Some b) → is_before b a ≡ true → Leasts (λ i. t i || u i) (Some b)
leasts_second t u a b h k second = record {
  passes = or_right (t b) (u b) k.passes;
  least = λ i c. elim (or_cases (t i) (u i) c) [
    | inl e ↦ not_before_chain i a b (h.least i e) (not_back b a second)
    | inr e ↦ k.least i e
  ];
}
