-- An entry is inserted into operations that are ordered by id.
use Rattle.std.proofs.Common.{◌≡◌, ℕ, ◌<◌, ◌≤◌, Bool, true, false, not, ◌&&◌, ◌||◌, List, [], ◌∷◌, ◌++◌, length, get_or, take, drop, zero, suc, append_assoc, refl, sym, ap, ◌∙◌, subst, inl, inr, arith}
use Rattle.std.proofs.lemmas.Bool.{true≢false, true_from_ne_false, or_cases}
use Rattle.std.proofs.lemmas.List.{take-append-drop}
use Rattle.std.proofs.lemmas.List.Folds.{list_any-append, list_any_at}
use Rattle.std.specs.List.{insert}
use Rattle.std.specs.List.Sorted.{IsPartitionPoint}
use Rattle.std.specs.Cmp.{Equal-is, tied_itself}
use Rattle.std.specs.Ordering.{is_eq, eq_by_cmp}
use Rattle.reg_op.specs.Set as set
use Rattle.reg_op.specs.Set.{union}
use Rattle.reg_op.specs.Ids.{Id, Ids, is_same, is_before}
use Rattle.reg_op.specs.Operations.{Op, IsOperation, op_cmp, one, ids, replaces, OneBody}
use Rattle.reg_op.specs.declared.operation.OpBody.{OpBody as Body}
use Rattle.reg_op.specs.declared.operation.OpBody.TheVariants.{Enter, Supersede, Retire}
use Rattle.reg_op.specs.Contents.{merged, state, IsContent}
use Rattle.reg_op.specs.Lists.{has, AllAfter, ById, content_at}
use Rattle.reg_op.specs.Status.{is_enter}
use Rattle.reg_op.proofs.OpLemmas.{id_total, op_total, op_exact}
use Rattle.reg_op.proofs.ClashLemmas.{same_id}
use Rattle.reg_op.proofs.OneLemmas.{any-from_list, merged_is_content}
use Rattle.reg_state.specs.MarkSets.{MarkSet, least}
use Rattle.reg_state.specs.Marks.{marks_of, marks_of_body, least_marks}
use Rattle.reg_state.specs.Merge.{is_marked_off, stays}
use Rattle.reg_state.specs.Tables.{AreTables}
use Rattle.reg_state.proofs.MarkLemmas.{replaced_enter}
use Rattle.reg_state.proofs.TableLemmas.{enter_replaces, marked_off, kept_off, merged_at}
use Rattle.reg_state.proofs.TakeLemmas.{ids_one, content_of_one, tables_of_one, with_one}

-- ---- the list stays ordered by id

after_put : (k : Id) (i : ℕ) (xs : List Op) (o : Op) → AllAfter k xs → is_before k o.id ≡ true → AllAfter k (take i xs ++ o ∷ drop i xs)
after_put k zero xs o h b = (b, h)
after_put k (suc i) [] o h b = (b, tt)
after_put k (suc i) (x ∷ xs) o h b = (h.0, after_put k i xs o h.1 b)

all_after_from : (k : Id) (xs : List Op) → ((j : ℕ) (d : Op) → j < length xs → is_before k (get_or xs j d).id ≡ true) → AllAfter k xs
all_after_from k [] h = tt
all_after_from k (x ∷ xs) h = (h 0 x (omega arith), all_after_from k xs (λ j d a. h (suc j) d (omega arith)))

by_id_put : (i : ℕ) (xs : List Op) (o : Op) → ById xs
    → ((j : ℕ) (d : Op) → j < length xs → j < i → is_before (get_or xs j d).id o.id ≡ true)
    → ((j : ℕ) (d : Op) → i ≤ j → j < length xs → is_before o.id (get_or xs j d).id ≡ true)
    → ById (take i xs ++ o ∷ drop i xs)
by_id_put zero xs o up low high = (all_after_from o.id xs (λ j d a. high j d (omega arith) a), up)
by_id_put (suc i) [] o up low high = (tt, tt)
by_id_put (suc i) (x ∷ xs) o up low high = (
  after_put x.id i xs o up.0 (low 0 o (omega arith) (omega arith)),
  by_id_put i xs o up.1 (λ j d a b. low (suc j) d (omega arith) (omega arith)) (λ j d a b. high (suc j) d (omega arith) (omega arith)),
)

-- an operation is inserted at the partition point of its id, which no other has, and the list stays ordered by id
pub by_id_at : (i : ℕ) (xs out : List Op) (o : Op) (id : Id) → ById xs → ((q : Op) → has xs q ≡ true → is_same o.id q.id ≡ false) → id ≡ o.id → out ≡ insert xs i o
    → IsPartitionPoint (λ y. is_before y.id id ≡ true) (λ y. is_before y.id id ≡ false) xs i → ById out
by_id_at i xs out o id up absent is e at =
    let point : IsPartitionPoint (λ y. is_before y.id o.id ≡ true) (λ y. is_before y.id o.id ≡ false) xs i =
    subst (λ k. IsPartitionPoint (λ (y : Op). is_before y.id k ≡ true) (λ y. is_before y.id k ≡ false) xs i) is at in
    subst ById (sym e) (by_id_put i xs o up (λ j d a b. point.0 j d (omega arith) b) (λ j d a b.
    let y : Op = get_or xs j d in
    true_from_ne_false _ (λ late.
    let same : o.id ≡ y.id = same_id o.id y.id late (point.1 j d a b) in
    let there : has xs y ≡ true = list_any_at (eq_by_cmp op_cmp y) xs j d b (ap is_eq (tied_itself op_total y)) in
    true≢false (sym (ap is_eq (tied_itself id_total o.id)) ∙ ap (λ k. is_same o.id k) same ∙ absent y there))))

-- ---- the new list has one more operation, and the same marks

pub has_put : (i : ℕ) (xs : List Op) (o q : Op) → has (insert xs i o) q ≡ (has xs q || has (o ∷ []) q)
has_put i xs o q =
    list_any-append (eq_by_cmp op_cmp q) (take i xs) (o ∷ drop i xs)
    ∙ turned (has (take i xs) q) (eq_by_cmp op_cmp q o) (has (drop i xs) q)
    ∙ ap (λ b. b || has (o ∷ []) q) (sym (list_any-append (eq_by_cmp op_cmp q) (take i xs) (drop i xs)) ∙ ap (λ l. has l q) (take-append-drop i xs))
  where
    turned : (a b d : Bool) → (a || (b || d)) ≡ ((a || d) || (b || false))
    turned true b d = refl
    turned false true true = refl
    turned false true false = refl
    turned false false true = refl
    turned false false false = refl

marks-append : (xs ys : List Op) → marks_of (xs ++ ys) ≡ marks_of xs ++ marks_of ys
marks-append [] ys = refl
marks-append (x ∷ xs) ys = ap (λ l. marks_of_body x.id x.body ++ l) (marks-append xs ys) ∙ sym (append_assoc (marks_of_body x.id x.body) (marks_of xs) (marks_of ys))

no_mark : (i : Id) (b : Body) → is_enter b ≡ true → marks_of_body i b ≡ []
no_mark i (Enter text) h = refl
no_mark i (Supersede old newer) h = absurd (true≢false (sym h))
no_mark i (Retire entry) h = absurd (true≢false (sym h))

marks_put : (i : ℕ) (xs : List Op) (o : Op) → is_enter o.body ≡ true → marks_of (insert xs i o) ≡ marks_of xs
marks_put i xs o h =
    marks-append (take i xs) (o ∷ drop i xs)
    ∙ ap (λ l. marks_of (take i xs) ++ (l ++ marks_of (drop i xs))) (no_mark o.id o.body h)
    ∙ sym (marks-append (take i xs) (drop i xs))
    ∙ ap marks_of (take-append-drop i xs)

-- ---- an Enter is not replaced, and replaces nothing

unreplaced : (ms : MarkSet) (o : Op) → is_enter o.body ≡ true → is_marked_off ms o ≡ false
unreplaced ms o h = from o.body h
  where
    from : (b : Body) → is_enter b ≡ true → is_marked_off ms (record { id = o.id; body = b; note = o.note }) ≡ false
    from (Enter text) h = sym (replaced_enter (set.items ms) o.id text o.note)
    from (Supersede old newer) h = absurd (true≢false (sym h))
    from (Retire entry) h = absurd (true≢false (sym h))

replaces_none : (o q : Op) → is_enter o.body ≡ true → is_marked_off (least_marks (o ∷ [])) q ≡ false
replaces_none o q h =
    marked_off (o ∷ []) (least_marks (o ∷ [])) refl q
    ∙ any-from_list (λ p. replaces p q) (o ∷ [])
    ∙ from o.body h
  where
    from : (b : Body) → is_enter b ≡ true → (replaces (record { id = o.id; body = b; note = o.note }) q || false) ≡ false
    from (Enter text) h = ap (λ b. b || false) (enter_replaces text o.note q o.id)
    from (Supersede old newer) h = absurd (true≢false (sym h))
    from (Retire entry) h = absurd (true≢false (sym h))

all_stay : (xs : List Op) (ms : MarkSet) (v : Ids) (o q : Op) → AreTables xs ms v → is_enter o.body ≡ true → (has xs q || has (o ∷ []) q) ≡ true → stays ms (least_marks (o ∷ [])) q ≡ true
all_stay xs ms v o q is h k =
    (λ n. not (off n || replaces_none o q h n))
  where
    off : is_marked_off ms q ≡ false
    off = elim (or_cases (has xs q) (has (o ∷ []) q) k) [
      | inl a ↦ kept_off xs ms v is q a
      | inr b ↦ elim (or_cases (eq_by_cmp op_cmp q o) false b) [
        | inl e ↦ subst (λ p. is_marked_off ms p ≡ false) (sym (op_exact q o ((Equal-is (op_cmp q o)).0 e))) (unreplaced ms o h)
        | inr e ↦ absurd (true≢false (sym e))
      ]
    ]

covered_put : (xs : List Op) (ms : MarkSet) (v : Ids) (i : ℕ) (o q : Op) → AreTables xs ms v → is_enter o.body ≡ true
    → has (insert xs i o) q ≡ (stays ms (least_marks (o ∷ [])) q && (has xs q || has (o ∷ []) q))
covered_put xs ms v i o q is h = has_put i xs o q ∙ absorbs _ _ (λ k. all_stay xs ms v o q is h k)
  where
    absorbs : (a b : Bool) → (a ≡ true → b ≡ true) → a ≡ (b && a)
    absorbs true b f = λ k. sym (f refl) k && true
    absorbs false true f = refl
    absorbs false false f = refl

-- ---- the tables with the entry

own_one : (o : Op) → IsOperation o → AreTables (o ∷ []) (least_marks (o ∷ [])) (ids (one o))
own_one o is = tables_of_one o (o ∷ []) (least_marks (o ∷ [])) (ids (one o)) is refl refl refl

pub put_at : (xs out : List Op) (ms : MarkSet) (v w : Ids) (i : ℕ) (o : Op) → AreTables xs ms v → IsOperation o → is_enter o.body ≡ true → out ≡ insert xs i o → w ≡ union v (ids (one o))
    → content_at out w ≡ merged (content_at xs v) (state (one o))
put_at xs out ms v w i o is op h e f =
    merged_at xs (o ∷ []) out ms (least_marks (o ∷ [])) v (ids (one o)) w is (own_one o op) (λ q. ap (λ l. has l q) e ∙ covered_put xs ms v i o q is h) f
    ∙ ap (merged (content_at xs v)) (content_of_one o (o ∷ []) (ids (one o)) refl refl)

pub put_tables : (xs out : List Op) (ms : MarkSet) (v w : Ids) (i : ℕ) (o : Op) → AreTables xs ms v → IsOperation o → is_enter o.body ≡ true → out ≡ insert xs i o → ById out → w ≡ union v (ids (one o))
    → OneBody (union (set.from_list {R = op_cmp} xs) (one o)) → AreTables out ms w
put_tables xs out ms v w i o is op h e up f one_body = record {
  by_id = up;
  marked = is.marked ∙ ap (λ l. least (set.from_list l)) (sym (marks_put i xs o h)) ∙ ap least_marks (sym e);
  is_content = subst IsContent (sym (put_at xs out ms v w i o is op h e f))
      (merged_is_content (content_at xs v) (state (one o)) is.is_content (subst IsContent (content_of_one o (o ∷ []) (ids (one o)) refl refl) (own_one o op).is_content) (with_one (content_at xs v) o one_body));
}

pub seen_more : (v w : Ids) (i : Id) (o : Op) → w ≡ union v (set.from_list (i ∷ [])) → i ≡ o.id → w ≡ union v (ids (one o))
seen_more v w i o e f = e ∙ ap (union v) (ap (λ (j : Id). set.from_list (j ∷ [])) f ∙ sym (ids_one o))
