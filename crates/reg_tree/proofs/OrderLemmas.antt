-- The order of the inputs of a join is nothing.
use Rattle.std.proofs.Common.{◌≡◌, true, ◌||◌, List, [], ◌∷◌, Ok, sym, ap, ◌∙◌}
use Rattle.std.specs.Cmp.{both_ways}
use Rattle.std.specs.List.{list_any}
use Rattle.reg_op.specs.Set.{contains, contains-union, contains-empty, same_set}
use Rattle.reg_op.specs.Ids.{Id, id_cmp}
use Rattle.reg_op.specs.Operations.{Op, op_cmp, kept}
use Rattle.reg_op.specs.Contents.{Content, nothing, joined}
use Rattle.reg_op.proofs.OpLemmas.{id_total, id_exact, op_total, op_exact}
use Rattle.reg_op.proofs.ContentLemmas.{same_content}
use Rattle.reg_op.specs.Joining.{all_joined, SameMembers}
use Rattle.reg_state.specs.ManyLaws.{all_ops, all_seen, merged_all}
use Rattle.reg_state.proofs.ManyLemmas.{joined_is}
use Rattle.reg_tree.specs.Sayings.{Keys, Saying, unsays, undone}
use Rattle.reg_tree.proofs.ListLemmas.{any_same, same_back}
use Rattle.reg_tree.proofs.SayingLemmas.{owed, is_undone}

in_all_ops : (xs : List Content) (o : Op) → contains (all_ops xs) o ≡ list_any (λ x. contains x.ops o) xs
in_all_ops [] o = contains-empty op_cmp o
in_all_ops (x ∷ xs) o = contains-union op_total x.ops (all_ops xs) o ∙ ap (λ b. contains x.ops o || b) (in_all_ops xs o)

in_all_seen : (xs : List Content) (i : Id) → contains (all_seen xs) i ≡ list_any (λ x. contains x.seen i) xs
in_all_seen [] i = contains-empty id_cmp i
in_all_seen (x ∷ xs) i = contains-union id_total x.seen (all_seen xs) i ∙ ap (λ b. contains x.seen i || b) (in_all_seen xs i)

merged_same : (xs ys : List Content) → SameMembers xs ys → merged_all xs ≡ merged_all ys
merged_same xs ys same = same_content _ _
    (ap kept (same_set op_total op_exact _ _ (λ o. in_all_ops xs o ∙ any_same (λ x. contains x.ops o) xs ys same ∙ sym (in_all_ops ys o))))
    (same_set id_total id_exact _ _ (λ i. in_all_seen xs i ∙ any_same (λ x. contains x.seen i) xs ys same ∙ sym (in_all_seen ys i)))

pub undone_same : {K : Type 0} (has : Keys K) (xs ys : List Content) (z : Content) (s : Saying K) → SameMembers xs ys → undone has xs z s ≡ true → undone has ys z s ≡ true
undone_same has xs ys z s same h =
    let r = owed has xs z s h in
    is_undone has ys z s r.0 (record {
      x = r.1.x;
      o = r.1.o;
      input = (same r.1.x).0 r.1.input;
      there = r.1.there;
      told = r.1.told;
      knew = sym (any_same (unsays has s r.1.o.id) xs ys same) ∙ r.1.knew;
    })

pub order_free : {K : Type 0} (has : Keys K) (xs ys : List Content) (z w : Content) (s : Saying K) → SameMembers xs ys →
    all_joined joined (Ok nothing) xs ≡ Ok z → all_joined joined (Ok nothing) ys ≡ Ok w → undone has xs z s ≡ undone has ys w s
order_free has xs ys z w s same e f =
    let is : z ≡ w = joined_is xs z e ∙ merged_same xs ys same ∙ sym (joined_is ys w f) in
    both_ways _ _ (undone_same has xs ys z s same) (undone_same has ys xs z s (same_back xs ys same)) ∙ ap (λ v. undone has ys v s) is
