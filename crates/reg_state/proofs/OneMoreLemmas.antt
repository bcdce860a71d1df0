-- A content and one more operation: its id is known, or it is replaced, or it sets a mark.
use Rattle.std.proofs.Common.{◌≡◌, ℕ, Bool, true, false, not, ◌&&◌, cond, List, [], ◌∷◌, filter, refl, sym, ap, ◌∙◌, subst, inl, inr}
use Rattle.std.proofs.lemmas.Bool.{true≢false, and_from, and_parts, or_cases, or_left, or_right, not-true, not_from_false, false_from_ne_true}
use Rattle.std.specs.List.{insert, list_any}
use Rattle.std.specs.Cmp.{IsTotalOrder, Equal-is, tied_itself, both_ways}
use Rattle.std.specs.Ordering.{is_eq, eq_by_cmp}
use Rattle.std.specs.declared.cmp.Ordering.{Ordering}
use Rattle.reg_op.specs.Set as set
use Rattle.reg_op.specs.Set.{Set, IsAntisymmetric, contains, union, contains-from_list, contains-union, same_set}
use Rattle.reg_op.specs.Ids.{Id, Ids, id_cmp, is_same, is_before}
use Rattle.reg_op.specs.Finite.{any}
use Rattle.reg_op.specs.Operations.{Op, Ops, IsOperation, op_cmp, one, ids, OneBody, replaces, kept}
use Rattle.reg_op.specs.Contents.{Content, merged, state, IsContent}
use Rattle.reg_op.specs.Lists.{has, ById, content_at}
use Rattle.reg_op.proofs.FiniteLemmas.{any_from_member, member_from_any}
use Rattle.reg_op.proofs.OpLemmas.{id_total, id_exact, op_total, op_exact, is_same_exact, replaces_irreflexive, replaces_chain}
use Rattle.reg_op.proofs.ContentLemmas.{union_left, union_right, contains_op-union, kept_is_within, same_content}
use Rattle.reg_op.proofs.OneLemmas.{any-from_list, merged_is_content, one_is, one_has, one_is_content, kept_one, kept_free, kept_has}
use Rattle.reg_state.specs.declared.mark.Mark.{Mark}
use Rattle.reg_state.specs.MarkSets.{MarkSet, mark_cmp, covers}
use Rattle.reg_state.specs.MarkLaws.{mark_total, mark_exact}
use Rattle.reg_state.proofs.CoverLemmas.{lesser_covers}
use Rattle.reg_state.specs.Marks.{least_marks, marks_of_body}
use Rattle.reg_state.specs.Merge.{is_marked_off}
use Rattle.reg_state.specs.Tables.{AreTables}
use Rattle.reg_state.proofs.MarkJoin.{marks_in, sets, mark_of_replaced, lessens_replaces, mark_in, least_is, marks_kept}
use Rattle.reg_state.proofs.MergeLemmas.{has-filter}
use Rattle.reg_state.proofs.PutLemmas.{has_put}
use Rattle.reg_state.proofs.TableLemmas.{marked_off}
use Rattle.reg_state.proofs.TakeLemmas.{ids_one, with_one}

-- the union with a subset changes nothing
union_there : {K : Type 0} {R : K → K → Ordering} (o : IsTotalOrder R) (same : IsAntisymmetric R) (s t : Set R) → ((x : K) → contains t x ≡ true → contains s x ≡ true) → s ≡ union s t
union_there o same s t within = same_set o same _ _ (λ x. both_ways _ _
    (λ h. contains-union o s t x ∙ or_left _ _ h)
    (λ h. elim (or_cases (contains s x) (contains t x) (sym (contains-union o s t x) ∙ h)) [ inl a ↦ a | inr b ↦ within x b ]))

-- ---- an operation whose id is known

pub known_is : (x : Content) (o : Op) → IsContent x → OneBody (union x.ops (one o)) → any (λ p. is_same o.id p.id) x.ops ≡ true → x ≡ merged x (state (one o))
known_is x o is one_body h =
    let p = member_from_any op_total op_exact (λ q. is_same o.id q.id) x.ops h in
    let same : p.0 ≡ o = one_body p.0 o (union_left x.ops (one o) p.0 p.1) (union_right x.ops (one o) o (one_has o)) (sym (is_same_exact o.id p.0.id p.2)) in
    let there : contains x.ops o ≡ true = subst (λ q. contains x.ops q ≡ true) same p.1 in
    same_content _ _
    (sym is.is_kept
    ∙ ap kept (union_there op_total op_exact x.ops (one o) (λ q k. subst (λ y. contains x.ops y ≡ true) (sym (one_is o q k)) there)
    ∙ ap (union x.ops) (sym (kept_one o))))
    (union_there id_total id_exact x.seen (ids (one o)) (λ i k.
    elim (or_cases (eq_by_cmp id_cmp i o.id) false (sym (contains-from_list id_total (o.id ∷ []) i) ∙ ap (λ (v : Ids). contains v i) (sym (ids_one o)) ∙ k)) [
      | inl e ↦ subst (λ j. contains x.seen j ≡ true) (sym (id_exact i o.id ((Equal-is (id_cmp i o.id)).0 e))) (is.are_seen o there)
      | inr e ↦ absurd (true≢false (sym e))
    ]))

-- the content has an operation with the id if and only if the list has one
pub id_there : (x : Content) (xs ys : List Op) (v : Ids) (o : Op) (i : Id) (r : Bool) → content_at xs v ≡ x → ys ≡ xs → i ≡ o.id → r ≡ list_any (λ p. is_same i p.id) ys
    → any (λ p. is_same o.id p.id) x.ops ≡ r
id_there x xs ys v o i r at e f h =
    sym (h
    ∙ (λ k. list_any (λ (p : Op). is_same (f k) p.id) (e k))
    ∙ sym (any-from_list (λ (p : Op). is_same o.id p.id) xs)
    ∙ ap (λ (y : Content). any (λ (p : Op). is_same o.id p.id) y.ops) at)

pub absent_of : (x : Content) (o : Op) → any (λ p. is_same o.id p.id) x.ops ≡ false → (q : Op) → contains x.ops q ≡ true → is_same o.id q.id ≡ false
absent_of x o h q k = false_from_ne_true _ (λ e. true≢false (sym (any_from_member op_total op_exact (λ p. is_same o.id p.id) x.ops q k e) ∙ h))

-- ---- the tables with one more operation

pub one_more_at : (xs out : List Op) (v w : Ids) (o : Op) → set.from_list {R = op_cmp} out ≡ kept (union (set.from_list {R = op_cmp} xs) (one o)) → w ≡ union v (ids (one o))
    → content_at out w ≡ merged (content_at xs v) (state (one o))
one_more_at xs out v w o e f = same_content _ _ (e ∙ (λ k. kept (union (set.from_list xs) (sym (kept_one o) k)))) f

pub one_more_tables : (xs out : List Op) (ms os : MarkSet) (v w : Ids) (o : Op) → AreTables xs ms v → IsOperation o → OneBody (union (set.from_list {R = op_cmp} xs) (one o))
    → set.from_list {R = op_cmp} out ≡ kept (union (set.from_list {R = op_cmp} xs) (one o)) → ById out → os ≡ least_marks out → w ≡ union v (ids (one o)) → AreTables out os w
one_more_tables xs out ms os v w o is op one_body e up marked f = record {
  by_id = up;
  marked = marked;
  is_content = subst IsContent (sym (one_more_at xs out v w o e f))
      (merged_is_content (content_at xs v) (state (one o)) is.is_content (one_is_content o op) (with_one (content_at xs v) o one_body));
}

-- ---- an operation that is replaced

pub replaced_is : (xs : List Op) (ms : MarkSet) (v : Ids) (o : Op) → AreTables xs ms v → is_marked_off ms o ≡ true
    → set.from_list {R = op_cmp} xs ≡ kept (union (set.from_list {R = op_cmp} xs) (one o))
replaced_is xs ms v o is off =
    let s : Ops = set.from_list xs in
    let p = member_from_any op_total op_exact (λ q. replaces q o) s (sym (marked_off xs ms is.marked o) ∙ off) in
    let free : (q r : Op) → contains s q ≡ true → contains s r ≡ true → replaces r q ≡ true → ⊥ =
    λ q r h k l. kept_free s q r (subst (λ (t : Ops). contains t q ≡ true) (sym is.is_content.is_kept) h) k l in
    same_set op_total op_exact _ _ (λ q. both_ways _ _
    (λ h. kept_has (union s (one o)) q (union_left s (one o) q h) (λ r k l.
    elim (or_cases (contains s r) (contains (one o) r) (sym (contains_op-union s (one o) r) ∙ k)) [
      | inl a ↦ free q r h a l
      | inr b ↦ free q p.0 h p.1 (replaces_chain p.0 o q p.2 (subst (λ y. replaces y q ≡ true) (one_is o r b) l))
    ]))
    (λ h. elim (or_cases (contains s q) (contains (one o) q) (sym (contains_op-union s (one o) q) ∙ kept_is_within (union s (one o)) q h)) [
      | inl a ↦ a
      | inr b ↦ absurd (kept_free (union s (one o)) q p.0 h (union_left s (one o) p.0 p.1) (subst (λ y. replaces p.0 y ≡ true) (sym (one_is o q b)) p.2))
    ]))

-- ---- an operation that is not replaced, and those that it replaces

abbrev pub unreplaced_by : Op → List Op → List Op
unreplaced_by o xs = filter (λ q. not (replaces o q)) xs

has_rest : (o : Op) (xs : List Op) (q : Op) → has (unreplaced_by o xs) q ≡ (not (replaces o q) && has xs q)
has_rest o xs q = has-filter (λ p. not (replaces o p)) xs q

pub rest_has : (o : Op) (xs : List Op) (q : Op) → has (unreplaced_by o xs) q ≡ true → has xs q ≡ true
rest_has o xs q h = (and_parts _ _ (sym (has_rest o xs q) ∙ h)).1

pub put_kept : (xs out : List Op) (ms : MarkSet) (v : Ids) (i : ℕ) (o : Op) → AreTables xs ms v → is_marked_off ms o ≡ false → out ≡ insert (unreplaced_by o xs) i o
    → set.from_list {R = op_cmp} out ≡ kept (union (set.from_list {R = op_cmp} xs) (one o))
put_kept xs out ms v i o is off e =
    let s : Ops = set.from_list xs in
    let fresh : (p : Op) → contains s p ≡ true → replaces p o ≡ true → ⊥ =
    λ p h l. true≢false (sym (any_from_member op_total op_exact (λ q. replaces q o) s p h l) ∙ sym (marked_off xs ms is.marked o) ∙ off) in
    let free : (q r : Op) → contains s q ≡ true → contains s r ≡ true → replaces r q ≡ true → ⊥ =
    λ q r h k l. kept_free s q r (subst (λ (t : Ops). contains t q ≡ true) (sym is.is_content.is_kept) h) k l in
    same_set op_total op_exact _ _ (λ q.
    contains-from_list op_total out q
    ∙ ap (λ l. has l q) e
    ∙ has_put i (unreplaced_by o xs) o q
    ∙ both_ways _ _
    (λ h. elim (or_cases (has (unreplaced_by o xs) q) (has (o ∷ []) q) h) [
      | inl a ↦
          let u = and_parts _ _ (sym (has_rest o xs q) ∙ a) in
          let there : contains s q ≡ true = contains-from_list op_total xs q ∙ u.1 in
          kept_has (union s (one o)) q (union_left s (one o) q there) (λ r k l.
          elim (or_cases (contains s r) (contains (one o) r) (sym (contains_op-union s (one o) r) ∙ k)) [
            | inl b ↦ free q r there b l
            | inr b ↦ true≢false (sym (subst (λ y. replaces y q ≡ true) (one_is o r b) l) ∙ not-true _ u.0)
          ])
      | inr b ↦
          let same : q ≡ o = one_is o q (contains-from_list op_total (o ∷ []) q ∙ b) in
          subst (λ y. contains (kept (union s (one o))) y ≡ true) (sym same)
          (kept_has (union s (one o)) o (union_right s (one o) o (one_has o)) (λ r k l.
          elim (or_cases (contains s r) (contains (one o) r) (sym (contains_op-union s (one o) r) ∙ k)) [
            | inl d ↦ fresh r d l
            | inr d ↦ replaces_irreflexive o (subst (λ y. replaces y o ≡ true) (one_is o r d) l)
          ]))
    ])
    (λ h. elim (or_cases (contains s q) (contains (one o) q) (sym (contains_op-union s (one o) q) ∙ kept_is_within (union s (one o)) q h)) [
      | inl a ↦ or_left _ _ (has_rest o xs q ∙ and_from _ _
          (not_from_false _ (false_from_ne_true _ (λ l. kept_free (union s (one o)) q o h (union_right s (one o) o (one_has o)) l)))
          (sym (contains-from_list op_total xs q) ∙ a))
      | inr b ↦ or_right _ _ (sym (contains-from_list op_total (o ∷ []) q) ∙ b)
    ]))

-- a filter that all elements pass changes nothing
filter_all : (f : Op → Bool) (xs : List Op) → ((q : Op) → has xs q ≡ true → f q ≡ true) → xs ≡ filter f xs
filter_all f [] h = refl
filter_all f (x ∷ xs) h =
    let rest = filter_all f xs (λ q k. h q (or_right (eq_by_cmp op_cmp q x) (has xs q) k)) in
    let this : f x ≡ true = h x (or_left _ (has xs x) (ap is_eq (tied_itself op_total x))) in
    λ k. cond (sym this k) (x ∷ rest k) (rest k)

own_mark_of : (o : Op) (m : Mark) → marks_of_body o.id o.body ≡ m ∷ [] → sets m o ≡ true
own_mark_of o m e = ap (λ l. list_any (eq_by_cmp mark_cmp m) l) e ∙ or_left _ _ (ap is_eq (tied_itself mark_total m))

pub none_replaced : (xs : List Op) (ms : MarkSet) (v : Ids) (o : Op) (m : Mark) → AreTables xs ms v → marks_of_body o.id o.body ≡ m ∷ [] → any (λ n. covers m.target n) ms ≡ false → xs ≡ unreplaced_by o xs
none_replaced xs ms v o m is e none =
    let s : Ops = set.from_list xs in
    filter_all (λ q. not (replaces o q)) xs (λ q h. not_from_false _ (false_from_ne_true _ (λ l.
    let n = mark_of_replaced q.id (is_before o.id q.id) o.body q.body l in
    let there : contains (marks_in s) n.0 ≡ true = mark_in s n.0 q (contains-from_list op_total xs q ∙ h) n.1 in
    let all : marks_in s ≡ ms = ap marks_in (sym is.is_content.is_kept) ∙ marks_kept s ∙ sym (least_is xs) ∙ sym is.marked in
    let covered : covers m.target n.0 ≡ true = lesser_covers m n.0 (lessens_replaces o q m n.0 (own_mark_of o m e) n.1 ∙ l) in
    true≢false (sym (any_from_member mark_total mark_exact (λ p. covers m.target p) ms n.0 (subst (λ t. contains t n.0 ≡ true) all there) covered) ∙ none))))
