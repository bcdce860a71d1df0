-- The register of one operation, and the join with it.
use Rattle.std.proofs.Common.{◌≡◌, ℕ, ◌+◌, ◌-◌, List, [], ◌∷◌, map, None, Ok, sym, ap, ◌∙◌, subst, arith}
use Rattle.reg_op.specs.Set as set
use Rattle.reg_op.specs.Set.{union, items-from_list}
use Rattle.reg_op.specs.Ids.{Id, Ids}
use Rattle.reg_op.specs.Operations.{Op, IsOperation, op_cmp, one, ids, OneBody}
use Rattle.reg_op.specs.Contents.{Content, state, merged, joined, joined_unless, clash_of, IsContent}
use Rattle.reg_op.specs.Lists.{ById, content_at}
use Rattle.reg_op.proofs.OpLemmas.{id_total, id_exact, op_total}
use Rattle.reg_op.proofs.FiniteLemmas.{union-empty}
use Rattle.reg_op.proofs.ContentLemmas.{one_body_from, joined_content, same_content}
use Rattle.reg_op.proofs.OneLemmas.{one_is, kept_one, one_is_content}
use Rattle.reg_state.specs.Runs.{ids_from, ids_of_run}
use Rattle.reg_state.specs.MarkSets.{MarkSet}
use Rattle.reg_state.specs.Marks.{least_marks}
use Rattle.reg_state.specs.Merge.{clash_in}
use Rattle.reg_state.specs.Tables.{AreTables}
use Rattle.reg_state.proofs.TableLemmas.{clash_is}

-- ---- the ids of one operation

pub ids_one : (o : Op) → ids (one o) ≡ set.from_list (o.id ∷ [])
ids_one o = ap (λ (l : List Op). set.from_list (map (λ (p : Op). p.id) l)) (items-from_list op_total (o ∷ []) tt)

run_of_one : (i : Id) → ids_of_run (record { replica = i.replica; low = i.count; high = i.count }) ≡ i ∷ []
run_of_one i = let e : i.count + 1 - i.count ≡ 1 = omega arith in ap (ids_from i.replica i.count) e

-- the empty set and a run of one id give the set of that id
pub seen_one : (i : Id) (v w : Ids) (r : List ℕ) (m n : ℕ) → v ≡ set.empty → w ≡ union v (set.from_list (ids_of_run (record { replica = r; low = m; high = n }))) → r ≡ i.replica → m ≡ i.count → n ≡ i.count
    → w ≡ set.from_list (i ∷ [])
seen_one i v w r m n e f a b d =
    f
    ∙ (λ k. union (e k) (set.from_list (ids_of_run (record { replica = a k; low = b k; high = d k }))))
    ∙ union-empty id_total id_exact _
    ∙ ap set.from_list (run_of_one i)

pub content_of_one : (o : Op) (os : List Op) (w : Ids) → os ≡ o ∷ [] → w ≡ ids (one o) → content_at os w ≡ state (one o)
content_of_one o os w e f = same_content _ _ (ap (λ (l : List Op). set.from_list {R = op_cmp} l) e ∙ sym (kept_one o)) f

pub tables_of_one : (o : Op) (os : List Op) (ms : MarkSet) (w : Ids) → IsOperation o → os ≡ o ∷ [] → w ≡ ids (one o) → ms ≡ least_marks os → AreTables os ms w
tables_of_one o os ms w is e f marked = record {
  by_id = subst ById (sym e) (tt, tt);
  marked = marked;
  is_content = subst IsContent (sym (content_of_one o os w e f)) (one_is_content o is);
}

-- ---- the join with one operation

one_body_of_one : (o : Op) → OneBody (one o)
one_body_of_one o p q a b e = one_is o p a ∙ sym (one_is o q b)

pub taken_is : (xs : List Op) (ms : MarkSet) (v : Ids) (x : Content) (o : Op) → AreTables xs ms v → content_at xs v ≡ x → joined x (state (one o)) ≡ joined_unless (clash_in xs (o ∷ [])) (merged x (state (one o)))
taken_is xs ms v x o is e =
    ap (λ c. joined_unless c (merged x (state (one o))))
    (sym ((λ k. clash_is xs (o ∷ []) is.by_id (tt, tt) is.is_content.one_body (one_body_of_one o) k)
    ∙ (λ k. clash_of (e k) (record { ops = sym (kept_one o) k; seen = ids (one o) }))))

pub none_clash : (xs : List Op) (ms : MarkSet) (v : Ids) (x : Content) (o : Op) → AreTables xs ms v → content_at xs v ≡ x → clash_in xs (o ∷ []) ≡ None → OneBody (union x.ops (one o))
none_clash xs ms v x o is e h =
    subst (λ (y : Content). OneBody (union y.ops (one o))) e
    (one_body_from _ (sym (clash_is xs (o ∷ []) is.by_id (tt, tt) is.is_content.one_body (one_body_of_one o)) ∙ h))

pub with_one : (x : Content) (o : Op) → OneBody (union x.ops (one o)) → OneBody (union x.ops (state (one o)).ops)
with_one x o one_body = subst (λ s. OneBody (union x.ops s)) (sym (kept_one o)) one_body

pub taken_ok : (x : Content) (o : Op) → OneBody (union x.ops (one o)) → joined x (state (one o)) ≡ Ok (merged x (state (one o)))
taken_ok x o one_body = joined_content x (state (one o)) (with_one x o one_body)
