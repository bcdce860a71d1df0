-- The join of many contents.
use Rattle.std.proofs.Common.{◌≡◌, true, List, [], ◌∷◌, map, Result, Ok, Err, refl, sym, ap, ◌∙◌, subst}
use Rattle.reg_op.specs.Set as set
use Rattle.reg_op.specs.Set.{contains, union}
use Rattle.reg_op.specs.Ids.{Id, Ids}
use Rattle.reg_op.specs.Operations.{Op, Ops, op_cmp, OneBody, kept, ids}
use Rattle.reg_op.specs.Contents.{Content, state, nothing, merged, joined}
use Rattle.reg_op.proofs.OpLemmas.{id_total, id_exact, op_total, op_exact}
use Rattle.reg_op.proofs.FiniteLemmas.{union_assoc, union-empty, union_comm}
use Rattle.reg_op.proofs.ContentLemmas.{kept_is_within, OneBody-within, union_left, union_right, union_within, joined_content, same_content, kept-union_left, kept-union_right, ids-union, state-empty}
use Rattle.reg_op.specs.Lists.{ById}
use Rattle.reg_op.proofs.JoinLemmas.{joined_ok}
use Rattle.reg_op.proofs.ClashLemmas.{items_are}
use Rattle.reg_op.specs.Joining.{all_joined}
use Rattle.reg_state.specs.ManyLaws.{all_ops, all_seen, all_of, merged_all}

-- joining a list of contents to a content adds their operations and seen ids, if no id has two bodies
joined_from : (k : Ops) (v : Ids) (xs : List Content) → OneBody (union k (all_ops xs))
    → all_joined joined (Ok (record { ops = kept k; seen = v })) xs ≡ Ok (record { ops = kept (union k (all_ops xs)); seen = union v (all_seen xs) })
joined_from k v [] one = ap Ok (same_content _ _ (ap kept (sym (union_comm op_total op_exact k set.empty ∙ union-empty op_total op_exact k))) (sym (union_comm id_total id_exact v set.empty ∙ union-empty id_total id_exact v)))
joined_from k v (x ∷ xs) one =
    let rest : Ops = union x.ops (all_ops xs) in
    let in_k : (o : Op) → contains (kept k) o ≡ true → contains (union k rest) o ≡ true = λ o h. union_left k rest o (kept_is_within k o h) in
    let in_x : (o : Op) → contains x.ops o ≡ true → contains (union k rest) o ≡ true = λ o h. union_right k rest o (union_left x.ops (all_ops xs) o h) in
    let first : OneBody (union (kept k) x.ops) = OneBody-within (union (kept k) x.ops) (union k rest) (union_within (kept k) x.ops (union k rest) in_k in_x) one in
    let whole : union (union k x.ops) (all_ops xs) ≡ union k rest = union_assoc op_total op_exact k x.ops (all_ops xs) in
    ap (λ r. all_joined joined r xs) (joined_content (record { ops = kept k; seen = v }) x first ∙ ap Ok (same_content _ _ (kept-union_left k x.ops) refl))
    ∙ joined_from (union k x.ops) (union v x.seen) xs (subst OneBody (sym whole) one)
    ∙ ap Ok (same_content _ _ (ap kept whole) (union_assoc id_total id_exact v x.seen (all_seen xs)))

pub joined_all : (xs : List Content) → OneBody (all_ops xs) → all_joined joined (Ok nothing) xs ≡ Ok (merged_all xs)
joined_all xs one =
    let none : union set.empty (all_ops xs) ≡ all_ops xs = union-empty op_total op_exact (all_ops xs) in
    ap (λ (x : Content). all_joined joined (Ok x) xs) (same_content nothing (record { ops = kept set.empty; seen = set.empty }) (ap (λ (x : Content). x.ops) (sym state-empty)) refl)
    ∙ joined_from set.empty set.empty xs (subst OneBody (sym none) one)
    ∙ ap Ok (same_content _ _ (ap kept none) (union-empty id_total id_exact (all_seen xs)))

-- ---- the result of a join that succeeds

err_stays : (id : Id) (xs : List Content) (z : Content) → all_joined joined (Err id) xs ≡ Ok z → ⊥
err_stays id [] z e = cc
err_stays id (x ∷ xs) z e = err_stays id xs z e

one_joined : (r : Result Content Id) (c x : Content) (xs : List Content) (z : Content) → joined c x ≡ r → all_joined joined r xs ≡ Ok z → all_joined joined (Ok (merged c x)) xs ≡ Ok z
one_joined (Ok y) c x xs z is e = subst (λ (q : Content). all_joined joined (Ok q) xs ≡ Ok z) (sym (joined_ok c x y is).1) e
one_joined (Err id) c x xs z is e = absurd (err_stays id xs z e)

merged_from : (k : Ops) (v : Ids) (xs : List Content) (z : Content) → all_joined joined (Ok (record { ops = kept k; seen = v })) xs ≡ Ok z
    → z ≡ record { ops = kept (union k (all_ops xs)); seen = union v (all_seen xs) }
merged_from k v [] z e =
    let is : record { ops = kept k; seen = v } ≡ z = cc in
    sym is ∙ same_content _ _ (ap kept (sym (union_comm op_total op_exact k set.empty ∙ union-empty op_total op_exact k))) (sym (union_comm id_total id_exact v set.empty ∙ union-empty id_total id_exact v))
merged_from k v (x ∷ xs) z e =
    let c : Content = record { ops = kept k; seen = v } in
    let next : all_joined joined (Ok (merged c x)) xs ≡ Ok z = one_joined (joined c x) c x xs z refl e in
    let first : merged c x ≡ record { ops = kept (union k x.ops); seen = union v x.seen } = same_content _ _ (kept-union_left k x.ops) refl in
    merged_from (union k x.ops) (union v x.seen) xs z (subst (λ (q : Content). all_joined joined (Ok q) xs ≡ Ok z) first next)
    ∙ same_content _ _ (ap kept (union_assoc op_total op_exact k x.ops (all_ops xs))) (union_assoc id_total id_exact v x.seen (all_seen xs))

pub joined_is : (xs : List Content) (z : Content) → all_joined joined (Ok nothing) xs ≡ Ok z → z ≡ merged_all xs
joined_is xs z e =
    let empty : nothing ≡ record { ops = kept set.empty; seen = set.empty } = same_content nothing (record { ops = kept set.empty; seen = set.empty }) (ap (λ (x : Content). x.ops) (sym state-empty)) refl in
    merged_from set.empty set.empty xs z (subst (λ (x : Content). all_joined joined (Ok x) xs ≡ Ok z) empty e)
    ∙ same_content _ _ (ap kept (union-empty op_total op_exact (all_ops xs))) (union-empty id_total id_exact (all_seen xs))

-- ---- the join of states

ops_of_states : (ss : List Ops) → kept (all_ops (map state ss)) ≡ kept (all_of ss)
ops_of_states [] = refl
ops_of_states (s ∷ ss) =
    kept-union_left s (all_ops (map state ss))
    ∙ sym (kept-union_right s (all_ops (map state ss)))
    ∙ ap (λ k. kept (union s k)) (ops_of_states ss)
    ∙ kept-union_right s (all_of ss)

seen_of_states : (ss : List Ops) → all_seen (map state ss) ≡ ids (all_of ss)
seen_of_states [] = ap (λ (x : Content). x.seen) (sym state-empty)
seen_of_states (s ∷ ss) = ap (union (ids s)) (seen_of_states ss) ∙ sym (ids-union s (all_of ss))

within_states : (ss : List Ops) (o : Op) → contains (all_ops (map state ss)) o ≡ true → contains (all_of ss) o ≡ true
within_states [] o h = h
within_states (s ∷ ss) o h =
    union_within (kept s) (all_ops (map state ss)) (union s (all_of ss))
    (λ p k. union_left s (all_of ss) p (kept_is_within s p k)) (λ p k. union_right s (all_of ss) p (within_states ss p k)) o h

pub states_all : (ss : List Ops) → OneBody (all_of ss) → all_joined joined (Ok nothing) (map state ss) ≡ Ok (state (all_of ss))
states_all ss one =
    joined_all (map state ss) (OneBody-within _ _ (within_states ss) one)
    ∙ ap Ok (same_content _ _ (ops_of_states ss) (seen_of_states ss))

pub same_ops : (os ps : List Op) → ById os → ById ps → set.from_list {R = op_cmp} os ≡ set.from_list ps → os ≡ ps
same_ops os ps h k e = sym (items_are os h) ∙ ap set.items e ∙ items_are ps k
