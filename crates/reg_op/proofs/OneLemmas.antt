-- The set of one operation, and which operations of a set are kept.
use Rattle.std.proofs.Common.{◌≡◌, Bool, true, false, ◌||◌, List, sym, ap, ◌∙◌, subst, inl, inr}
use Rattle.std.proofs.lemmas.Bool.{and_from, and_parts, or_left, or_right, or_cases, true≢false, not-true, not_from_false, false_from_ne_true}
use Rattle.std.specs.Cmp.{tied_itself, both_ways, Equal-is}
use Rattle.std.specs.Ordering.{is_eq, eq_by_cmp}
use Rattle.std.specs.List.{list_any}
use Rattle.reg_op.specs.Set as set
use Rattle.reg_op.specs.Set.{contains, union, contains-insert, contains-empty, contains-from_list, same_set}
use Rattle.reg_op.specs.Operations.{Op, IsOperation, Ops, one, op_cmp, OneBody, replaces, kept}
use Rattle.reg_op.specs.Contents.{Content, state, merged, IsContent}
use Rattle.reg_op.specs.Finite.{any}
use Rattle.reg_op.proofs.FiniteLemmas.{any_from_member, member_from_any, among, some_of}
use Rattle.reg_op.proofs.OpLemmas.{id_total, op_total, op_exact, replaces_irreflexive}
use Rattle.reg_op.proofs.ContentLemmas.{contains-kept, kept-kept, kept_is_within, OneBody-within, state_is_content, contains_op-union}

pub one_is : (o q : Op) → contains (one o) q ≡ true → q ≡ o
one_is o q h =
    elim (or_cases (eq_by_cmp op_cmp q o) false (sym (contains-insert op_total set.empty o q ∙ ap (λ b. eq_by_cmp op_cmp q o || b) (contains-empty op_cmp q)) ∙ h)) [
      | inl e ↦ op_exact q o ((Equal-is (op_cmp q o)).0 e)
      | inr e ↦ absurd (true≢false (sym e))
    ]

pub one_has : (o : Op) → contains (one o) o ≡ true
one_has o = contains-insert op_total set.empty o o ∙ or_left _ _ (ap is_eq (tied_itself op_total o))

-- no operation of s replaces a kept one, and an operation that none replaces is kept
pub kept_free : (s : Ops) (q p : Op) → contains (kept s) q ≡ true → contains s p ≡ true → replaces p q ≡ true → ⊥
kept_free s q p h m r =
    let none = not-true _ (and_parts _ _ (sym (contains-kept s q) ∙ h)).1 in
    true≢false (sym (any_from_member op_total op_exact (λ x. replaces x q) s p m r) ∙ none)

pub kept_has : (s : Ops) (q : Op) → contains s q ≡ true → ((p : Op) → contains s p ≡ true → replaces p q ≡ true → ⊥) → contains (kept s) q ≡ true
kept_has s q m free =
    contains-kept s q ∙ and_from _ _ m (not_from_false _ (false_from_ne_true _ (λ h.
    let r = member_from_any op_total op_exact (λ x. replaces x q) s h in free r.0 r.1 r.2)))

pub kept_one : (o : Op) → kept (one o) ≡ one o
kept_one o = same_set op_total op_exact _ _ (λ q. both_ways _ _
    (λ h. (and_parts _ _ (sym (contains-kept (one o) q) ∙ h)).0)
    (λ h. kept_has (one o) q h (λ p m r. replaces_irreflexive q (subst (λ x. replaces x q ≡ true) (one_is o p m ∙ sym (one_is o q h)) r))))

pub merged_is_content : (x y : Content) → IsContent x → IsContent y → OneBody (union x.ops y.ops) → IsContent (merged x y)
merged_is_content x y is js one_body = record {
  are_operations = λ o h. elim (or_cases (contains x.ops o) (contains y.ops o) (sym (contains_op-union x.ops y.ops o) ∙ kept_is_within (union x.ops y.ops) o h)) [
    | inl a ↦ is.are_operations o a
    | inr b ↦ js.are_operations o b
  ];
  one_body = OneBody-within _ _ (kept_is_within (union x.ops y.ops)) one_body;
  is_kept = kept-kept (union x.ops y.ops);
  are_seen = λ o h. set.contains-union id_total x.seen y.seen o.id
      ∙ elim (or_cases (contains x.ops o) (contains y.ops o) (sym (contains_op-union x.ops y.ops o) ∙ kept_is_within (union x.ops y.ops) o h)) [
        | inl a ↦ or_left _ _ (is.are_seen o a)
        | inr b ↦ or_right _ _ (js.are_seen o b)
      ];
  are_ids = λ i h. elim (or_cases (contains x.seen i) (contains y.seen i) (sym (set.contains-union id_total x.seen y.seen i) ∙ h)) [
    | inl a ↦ is.are_ids i a
    | inr b ↦ js.are_ids i b
  ];
}

pub one_is_content : (o : Op) → IsOperation o → IsContent (state (one o))
one_is_content o is = state_is_content (one o) (λ q h. subst IsOperation (sym (one_is o q h)) is) (λ p q a b e. one_is o p a ∙ sym (one_is o q b))

-- some member of a list's set passes if and only if some element of the list does
pub any-from_list : (t : Op → Bool) (xs : List Op) → any t (set.from_list {R = op_cmp} xs) ≡ list_any t xs
any-from_list t xs = both_ways _ _
    (λ h. let r = member_from_any op_total op_exact t (set.from_list xs) h in among op_total op_exact t xs r.0 (sym (contains-from_list op_total xs r.0) ∙ r.1) r.2)
    (λ h. let r = some_of op_total op_exact t xs h in any_from_member op_total op_exact t (set.from_list xs) r.0 (contains-from_list op_total xs r.0 ∙ r.1) r.2)
