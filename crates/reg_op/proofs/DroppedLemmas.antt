-- The least operation that is not kept.
use Rattle.std.proofs.Common.{◌≡◌, Bool, true, false, not, ◌&&◌, Some, None, refl, sym, ap, ◌∙◌, subst, ◌↔◌}
use Rattle.std.proofs.lemmas.Bool.{true≢false, false_from_ne_true, true_from_ne_false, not-false}
use Rattle.std.proofs.lemmas.Option.{same_Some, none-some}
use Rattle.std.specs.Cmp.{both_ways}
use Rattle.std.specs.List.{list_any}
use Rattle.std.specs.Option.{option_map}
use Rattle.reg_op.specs.Set.{contains, items, contains-items, same_set}
use Rattle.reg_op.specs.Ids.{Id, is_before}
use Rattle.reg_op.specs.Finite.{any}
use Rattle.reg_op.specs.Operations.{Op, Ops, replaces, kept}
use Rattle.reg_op.specs.Kept.{first_dropped, IsLeastDropped}
use Rattle.reg_op.proofs.OpLemmas.{op_total, op_exact}
use Rattle.reg_op.proofs.ContentLemmas.{contains-kept, kept_is_within}
use Rattle.reg_op.proofs.ClashLemmas.{found, find_none, any_of, items_rise, same_id}

-- some operation of the set replaces it
abbrev goes : Ops → Op → Bool
goes s o = any (λ p. replaces p o) s

goes_dropped : (s : Ops) (o : Op) → contains s o ≡ true → contains (kept s) o ≡ not (goes s o)
goes_dropped s o h = contains-kept s o ∙ ap (λ b. b && not (goes s o)) h

dropped_goes : (s : Ops) (o : Op) → contains s o ≡ true → contains (kept s) o ≡ false → goes s o ≡ true
dropped_goes s o h d = not-false (goes s o) (sym (goes_dropped s o h) ∙ d)

dropped_found : (s : Ops) → list_any (goes s) (items s) ≡ true → (i : Id) × (first_dropped s ≡ Some i) × IsLeastDropped s i
dropped_found s h =
    let r = found (goes s) (items s) (items_rise s) h in
    let there : contains s r.0 ≡ true = contains-items s r.0 ∙ r.2.there in (
      r.0.id,
      ap (option_map (λ (o : Op). o.id)) r.1,
      record {
        one = r.0;
        there = there;
        dropped = goes_dropped s r.0 there ∙ ap not r.2.passes;
        at = refl;
        least = λ o k d. r.2.least o (sym (contains-items s o) ∙ k) (dropped_goes s o k d);
      },
    )

dropped_some : (s : Ops) (o : Op) → contains s o ≡ true → contains (kept s) o ≡ false → list_any (goes s) (items s) ≡ true
dropped_some s o h d = any_of (goes s) (items s) o (sym (contains-items s o) ∙ h) (dropped_goes s o h d)

dropped_none_of : (s : Ops) → list_any (goes s) (items s) ≡ false → first_dropped s ≡ None
dropped_none_of s h = ap (option_map (λ (o : Op). o.id)) (find_none (goes s) (items s) h)

pub dropped_least : (s : Ops) (i : Id) → (first_dropped s ≡ Some i) ↔ IsLeastDropped s i
dropped_least s i = (
  λ h. elim (list_any (goes s) (items s)) as (λ b. list_any (goes s) (items s) ≡ b → IsLeastDropped s i) [
    | true ↦ λ e. let r = dropped_found s e in subst (IsLeastDropped s) (same_Some r.0 i (sym r.1 ∙ h)) r.2
    | false ↦ λ e. absurd (none-some i (sym (dropped_none_of s e) ∙ h))
  ] refl,
  λ l.
      let r = dropped_found s (dropped_some s l.one l.there l.dropped) in
      let not_sooner : is_before r.0 i ≡ false = subst (λ j. is_before j i ≡ false) r.2.at (l.least r.2.one r.2.there r.2.dropped) in
      let not_later : is_before i r.0 ≡ false = subst (λ j. is_before j r.0 ≡ false) l.at (r.2.least l.one l.there l.dropped) in
      r.1 ∙ ap Some (same_id r.0 i not_sooner not_later),
)

pub dropped_none : (s : Ops) → (first_dropped s ≡ None) ↔ (kept s ≡ s)
dropped_none s = (
  λ h. same_set op_total op_exact _ _ (λ o. both_ways _ _
      (kept_is_within s o)
      (λ k. true_from_ne_false _ (λ d. let r = dropped_found s (dropped_some s o k d) in none-some r.0 (sym h ∙ r.1)))),
  λ same. dropped_none_of s (false_from_ne_true _ (λ e.
      let r = dropped_found s e in
      true≢false (sym (subst (λ t. contains t r.2.one ≡ true) (sym same) r.2.there) ∙ r.2.dropped))),
)
