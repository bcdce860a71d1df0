-- The ids that a command numbers are new, and each has one operation.
use Rattle.std.proofs.Common.{◌≡◌, ℕ, ◌+◌, ◌-◌, ◌<◌, ◌≤◌, nat_lt, add-one, get_or, take, true, false, ◌&&◌, cond, max, List, [], ◌∷◌, ◌++◌, map, length, Some, None, Ok, Err, zero, suc, refl, sym, ap, ◌∙◌, subst, inl, inr, ◌⊎◌, arith}
use Rattle.std.proofs.lemmas.Bool.Decides.{nat_tests}
use Rattle.std.proofs.lemmas.List.{take_more, length-take}
use Rattle.std.proofs.lemmas.Bool.{cases_lt, or_cases, or_left, or_right, true≢false}
use Rattle.std.specs.Cmp.{tied_itself, Equal-is, nat_cmp_is}
use Rattle.std.proofs.lemmas.Cmp.{nat_list_cmp_total}
use Rattle.std.specs.Ordering.{is_eq, is_lt, eq_by_cmp, ordering_then, nat_cmp}
use Rattle.std.specs.declared.cmp.Ordering.TheVariants.{Less}
use Rattle.std.specs.List.{list_any}
use Rattle.reg_op.specs.Set as set
use Rattle.reg_op.specs.Set.{contains, contains-items, contains-empty, contains-from_list}
use Rattle.reg_op.specs.Ids.{Id, Ids, id_cmp, is_before}
use Rattle.reg_op.specs.Operations.{Op, Ops, op_cmp, ids, one, kept, OneBody}
use Rattle.reg_op.specs.declared.operation.OpBody.{OpBody as Body}
use Rattle.reg_op.specs.declared.operation.OpBody.TheVariants.{Enter}
use Rattle.reg_op.specs.Contents.{Content, state, nothing, merged, joined, IsContent}
use Rattle.reg_op.specs.Lists.{AllAfter, ById, has, content_at}
use Rattle.reg_op.proofs.OpLemmas.{id_total, id_exact, op_total, op_exact}
use Rattle.reg_op.proofs.ContentLemmas.{state-empty, joined_comm, joined_nothing, contains_op-union, joined_content, kept_is_within, OneBody-within, union_within, union_left, union_right, same_content}
use Rattle.reg_op.proofs.ClashLemmas.{items_are}
use Rattle.reg_op.proofs.FiniteLemmas.{union-empty}
use Rattle.reg_state.specs.declared.run.Run.{Run}
use Rattle.reg_state.specs.Runs.{replica_cmp, id_at, ids_from, ids_of_run, IsGreatest, IsAbove}
use Rattle.reg_state.proofs.RunLemmas.{same_replica, replica_itself}
use Rattle.reg_office.specs.declared.fault.OfficeFault.{OfficeFault}
use Rattle.reg_office.specs.declared.fault.OfficeFault.TheVariants as fault
use Rattle.reg_office.specs.Making.{greatest_of, greatest, numbered, objections, else_next, note_fault, is_spent, made_unless, made}
use Rattle.reg_office.specs.Commands.{Does}

-- an element of a list is its head or in its tail
pub op_cases : (o x : Op) (xs : List Op) → has (x ∷ xs) o ≡ true → (o ≡ x) ⊎ (has xs o ≡ true)
op_cases o x xs h =
    elim (or_cases (eq_by_cmp op_cmp o x) (has xs o) h) [
      | inl e ↦ inl (op_exact o x ((Equal-is (op_cmp o x)).0 e))
      | inr e ↦ inr e
    ]

pub numbered_on : (r : List ℕ) (n : ℕ) (note : List ℕ) (bs : List Body) (o : Op) → has (numbered r n note bs) o ≡ true → (o.id.replica ≡ r) × (n ≤ o.id.count)
numbered_on r n note [] o h = absurd (true≢false (sym h))
numbered_on r n note (b ∷ bs) o h =
    elim (op_cases o _ (numbered r (n + 1) note bs) h) [
      | inl e ↦ (ap (λ p. p.id.replica) e, let c : o.id.count ≡ n = ap (λ p. p.id.count) e in omega arith)
      | inr e ↦ let rest = numbered_on r (n + 1) note bs o e in (rest.0, omega arith)
    ]

pub numbered_once : (r : List ℕ) (n : ℕ) (note : List ℕ) (bs : List Body) (p o : Op) → has (numbered r n note bs) p ≡ true → has (numbered r n note bs) o ≡ true → p.id ≡ o.id → p ≡ o
numbered_once r n note [] p o h k e = absurd (true≢false (sym h))
numbered_once r n note (b ∷ bs) p o h k e =
    let counts : p.id.count ≡ o.id.count = ap (λ i. i.count) e in
    elim (op_cases p _ (numbered r (n + 1) note bs) h) [
      | inl a ↦ elim (op_cases o _ (numbered r (n + 1) note bs) k) [
        | inl c ↦ a ∙ sym c
        | inr c ↦ let rest = numbered_on r (n + 1) note bs o c in let here : p.id.count ≡ n = ap (λ q. q.id.count) a in absurd (omega arith)
      ]
      | inr a ↦ elim (op_cases o _ (numbered r (n + 1) note bs) k) [
        | inl c ↦ let rest = numbered_on r (n + 1) note bs p a in let here : o.id.count ≡ n = ap (λ q. q.id.count) c in absurd (omega arith)
        | inr c ↦ numbered_once r (n + 1) note bs p o a c e
      ]
    ]

-- ---- the greatest count

greatest_over : (r : List ℕ) (is : List Id) (i : Id) → list_any (eq_by_cmp id_cmp i) is ≡ true → i.replica ≡ r → i.count ≤ greatest_of r is
greatest_over r [] i h e = absurd (true≢false (sym h))
greatest_over r (x ∷ xs) i h e =
    elim (or_cases (eq_by_cmp id_cmp i x) (list_any (eq_by_cmp id_cmp i) xs) h) [
      | inl a ↦
          let is : i ≡ x = id_exact i x ((Equal-is (id_cmp i x)).0 a) in
          let own : is_eq (replica_cmp x.replica r) ≡ true = subst (λ q. is_eq (replica_cmp q r) ≡ true) (sym e ∙ ap (λ j. j.replica) is) (replica_itself r) in
          let count : i.count ≡ x.count = ap (λ j. j.count) is in
          subst (λ b. i.count ≤ cond b (max x.count (greatest_of r xs)) (greatest_of r xs)) (sym own) (omega arith)
      | inr a ↦
          let rest = greatest_over r xs i a e in
          elim (is_eq (replica_cmp x.replica r)) as (λ b. i.count ≤ cond b (max x.count (greatest_of r xs)) (greatest_of r xs)) [ true ↦ omega arith | false ↦ rest ]
    ]

-- no seen count of a replica is above the greatest
pub count-greatest : (r : List ℕ) (seen : Ids) (i : Id) → contains seen i ≡ true → i.replica ≡ r → i.count ≤ greatest r seen
count-greatest r seen i h e = greatest_over r (set.items seen) i (sym (contains-items seen i) ∙ h) e

max_is : (a b : ℕ) → (max a b ≡ a) ⊎ (max a b ≡ b)
max_is a b = elim (cases_lt a b) [ inl h ↦ inr (omega arith) | inr h ↦ inl (omega arith) ]

pub greatest_there : (r : List ℕ) (is : List Id) → 0 < greatest_of r is → list_any (eq_by_cmp id_cmp (id_at r (greatest_of r is))) is ≡ true
greatest_there r [] h = absurd (omega arith)
greatest_there r (x ∷ xs) h =
    elim (is_eq (replica_cmp x.replica r)) as (λ b. is_eq (replica_cmp x.replica r) ≡ b → 0 < cond b (max x.count (greatest_of r xs)) (greatest_of r xs)
    → list_any (eq_by_cmp id_cmp (id_at r (cond b (max x.count (greatest_of r xs)) (greatest_of r xs)))) (x ∷ xs) ≡ true) [
      | true ↦ λ own h. elim (max_is x.count (greatest_of r xs)) [
        | inl e ↦ or_left _ _ (subst (λ (i : Id). eq_by_cmp id_cmp i x ≡ true) (λ k. id_at (same_replica x.replica r own k) (sym e k)) (ap is_eq (tied_itself id_total x)))
        | inr e ↦ or_right (eq_by_cmp id_cmp (id_at r (max x.count (greatest_of r xs))) x) _ (subst (λ c. list_any (eq_by_cmp id_cmp (id_at r c)) xs ≡ true) (sym e) (greatest_there r xs (omega arith)))
      ]
      | false ↦ λ other h. or_right (eq_by_cmp id_cmp (id_at r (greatest_of r xs)) x) _ (greatest_there r xs h)
    ] refl h

pub greatest_is : (r : List ℕ) (seen : Ids) (n : ℕ) → IsGreatest seen r n → n ≡ greatest r seen
greatest_is r seen n is =
    let low : n ≤ greatest r seen = up_to n (greatest r seen) (λ h. count-greatest r seen (id_at r n) (is.there h) refl) in
    let high : greatest r seen ≤ n = up_to (greatest r seen) n (λ h. is.bound (greatest r seen) (contains-items seen (id_at r (greatest r seen)) ∙ greatest_there r (set.items seen) h)) in
    omega arith
  where
    up_to : (a b : ℕ) → (0 < a → a ≤ b) → a ≤ b
    up_to zero b h = omega arith
    up_to (suc a) b h = h (omega arith)

-- ---- counts above the greatest were not seen

pub number_is_new : (x : Content) (r note : List ℕ) (bs : List Body) (o : Op) → has (numbered r (greatest r x.seen + 1) note bs) o ≡ true → contains x.seen o.id ≡ true → ⊥
number_is_new x r note bs o h k =
    let on = numbered_on r (greatest r x.seen + 1) note bs o h in
    let by = count-greatest r x.seen o.id k on.0 in
    absurd (omega arith)

pub numbers_agree : (x : Content) (r note : List ℕ) (bs : List Body) → IsContent x → OneBody (set.union x.ops (set.from_list {R = op_cmp} (numbered r (greatest r x.seen + 1) note bs)))
numbers_agree x r note bs is p o a b e =
    elim (where_is p a) [
      | inl h ↦ elim (where_is o b) [
        | inl k ↦ is.one_body p o h k e
        | inr k ↦ absurd (number_is_new x r note bs o k (subst (λ i. contains x.seen i ≡ true) e (is.are_seen p h)))
      ]
      | inr h ↦ elim (where_is o b) [
        | inl k ↦ absurd (number_is_new x r note bs p h (subst (λ i. contains x.seen i ≡ true) (sym e) (is.are_seen o k)))
        | inr k ↦ numbered_once r (greatest r x.seen + 1) note bs p o h k e
      ]
    ]
  where
    where_is : (q : Op) → contains (set.union x.ops (set.from_list {R = op_cmp} (numbered r (greatest r x.seen + 1) note bs))) q ≡ true → (contains x.ops q ≡ true) ⊎ (has (numbered r (greatest r x.seen + 1) note bs) q ≡ true)
    where_is q h = elim (or_cases (contains x.ops q) (contains (set.from_list {R = op_cmp} (numbered r (greatest r x.seen + 1) note bs)) q) (sym (contains_op-union x.ops (set.from_list (numbered r (greatest r x.seen + 1) note bs)) q) ∙ h)) [
      | inl i ↦ inl i
      | inr i ↦ inr (sym (contains-from_list op_total (numbered r (greatest r x.seen + 1) note bs) q) ∙ i)
    ]

pub numbers_join : (x : Content) (r note : List ℕ) (bs : List Body) → IsContent x → (s : Ops) → s ≡ set.from_list {R = op_cmp} (numbered r (greatest r x.seen + 1) note bs) → joined x (state s) ≡ Ok (merged x (state s))
numbers_join x r note bs is s e =
    let one : OneBody (set.union x.ops s) = subst (λ t. OneBody (set.union x.ops t)) (sym e) (numbers_agree x r note bs is) in
    joined_content x (state s) (OneBody-within (set.union x.ops (kept s)) (set.union x.ops s)
    (union_within x.ops (kept s) (set.union x.ops s) (union_left x.ops s) (λ o h. union_right x.ops s o (kept_is_within s o h))) one)

-- ---- numbered operations as a list

after_numbered : (r : List ℕ) (m n : ℕ) (note : List ℕ) (bs : List Body) → m < n → AllAfter (id_at r m) (numbered r n note bs)
after_numbered r m n note [] h = tt
after_numbered r m n note (b ∷ bs) h = (before r m n h, after_numbered r m (n + 1) note bs (omega arith))
  where
    before : (r : List ℕ) (m n : ℕ) → m < n → is_before (id_at r m) (id_at r n) ≡ true
    before r m n h = (λ k. is_lt (ordering_then (tied_itself nat_list_cmp_total r k) (nat_cmp m n))) ∙ ap is_lt (sym (nat_cmp_is m n Less h))

pub numbered_by_id : (r : List ℕ) (n : ℕ) (note : List ℕ) (bs : List Body) → ById (numbered r n note bs)
numbered_by_id r n note [] = tt
numbered_by_id r n note (b ∷ bs) = (after_numbered r n (n + 1) note bs (omega arith), numbered_by_id r (n + 1) note bs)

pub numbered_ids : (r : List ℕ) (n : ℕ) (note : List ℕ) (bs : List Body) → map (λ (o : Op). o.id) (numbered r n note bs) ≡ ids_from r n (length bs)
numbered_ids r n note [] = refl
numbered_ids r n note (b ∷ bs) = ap (λ is. id_at r n ∷ is) (numbered_ids r (n + 1) note bs)

-- ---- one operation after another

numbered_push : (r : List ℕ) (n : ℕ) (note : List ℕ) (bs : List Body) (b : Body) → numbered r n note (bs ++ b ∷ []) ≡ numbered r n note bs ++ record { id = id_at r (n + length bs); body = b; note = note } ∷ []
numbered_push r n note [] b = let e : n ≡ n + 0 = omega arith in ap (λ m. record { id = id_at r m; body = b; note = note } ∷ []) e
numbered_push r n note (c ∷ bs) b =
    let e : n + 1 + length bs ≡ n + (length bs + 1) = omega arith in
    ap (λ os. record { id = id_at r n; body = c; note = note } ∷ os) (numbered_push r (n + 1) note bs b ∙ ap (λ m. numbered r (n + 1) note bs ++ record { id = id_at r m; body = b; note = note } ∷ []) (e ∙ ap (λ m. n + m) (add-one (length bs))))

pub length_map : {X Y : Type 0} (f : X → Y) (xs : List X) → length (map f xs) ≡ length xs
length_map f [] = refl
length_map f (x ∷ xs) = ap suc (length_map f xs)

length_front : {X : Type 0} (k : ℕ) (xs : List X) → k < length xs → length (take k xs) ≡ k
length_front k xs h = omega (arith, length-take k xs)

pub numbered_more : (r : List ℕ) (n : ℕ) (note : List ℕ) (bs : List Body) (k : ℕ) (b : Body) (os : List Op) (o : Op) → k < length bs → b ≡ get_or bs k b → os ≡ numbered r n note (take k bs) → o ≡ record { id = id_at r (n + k); body = b; note = note }
    → os ++ o ∷ [] ≡ numbered r n note (take (k + 1) bs)
numbered_more r n note bs k b os o h at before is =
    (λ j. before j ++ is j ∷ [])
    ∙ (λ j. numbered r n note (take k bs) ++ record { id = id_at r (n + sym (length_front k bs h) j); body = b; note = note } ∷ [])
    ∙ sym (numbered_push r n note (take k bs) b)
    ∙ (λ j. numbered r n note (take k bs ++ at j ∷ []))
    ∙ (λ j. numbered r n note (sym (take_more bs k b h) j))

-- ---- the outcome of a command

unspent : (limit g k : ℕ) → g + k ≤ limit → (nat_lt 0 k && nat_lt limit (g + k)) ≡ false
unspent limit g k h = grind (arith, nat_tests)

spent : (limit g k : ℕ) → 0 < k → limit < g + k → (nat_lt 0 k && nat_lt limit (g + k)) ≡ true
spent limit g k p h = grind (arith, nat_tests)

pub spent_over : (limit g k : ℕ) → nat_lt limit (g + k) ≡ true → g ≤ limit → (0 < k) × (limit < g + k)
spent_over limit g k h b = (grind (arith, nat_tests), grind (arith, nat_tests))

pub made_ok : (x : Content) (r note : List ℕ) (bs : List Body) → note_fault note ≡ None → objections x (numbered r (greatest r x.seen + 1) note bs) ≡ None → greatest r x.seen + length bs ≤ 4294967295 → made x r note bs ≡ Ok (numbered r (greatest r x.seen + 1) note bs)
made_ok x r note bs a e h = λ j. made_unless (else_next (a j) (e j)) (unspent 4294967295 (greatest r x.seen) (length bs) h j) (numbered r (greatest r x.seen + 1) note bs)

pub made_spent : (x : Content) (r note : List ℕ) (bs : List Body) → note_fault note ≡ None → objections x (numbered r (greatest r x.seen + 1) note bs) ≡ None → 0 < length bs → 4294967295 < greatest r x.seen + length bs → made x r note bs ≡ Err fault.CountSpent
made_spent x r note bs a e p h = λ j. made_unless (else_next (a j) (e j)) (spent 4294967295 (greatest r x.seen) (length bs) p h j) (numbered r (greatest r x.seen + 1) note bs)

pub made_refused : (x : Content) (r note : List ℕ) (bs : List Body) (f : OfficeFault) → note_fault note ≡ None → objections x (numbered r (greatest r x.seen + 1) note bs) ≡ Some f → made x r note bs ≡ Err f
made_refused x r note bs f a e = λ j. made_unless (else_next (a j) (e j)) (is_spent (greatest r x.seen) (length bs)) (numbered r (greatest r x.seen + 1) note bs)

-- ---- one new operation

pub one_made : (x : Content) (r note : List ℕ) (b : Body) (o : Op) (i : Id) (t : List ℕ) (n : ℕ) (v : Ids) → o ≡ record { id = i; body = b; note = t } → t ≡ note → i ≡ record { replica = r; count = n } → n ≡ greatest r v + 1 → v ≡ x.seen
    → o ≡ record { id = id_at r (greatest r x.seen + 1); body = b; note = note }
one_made x r note b o i t n v e s f g h = e ∙ (λ j. record { id = f j; body = b; note = s j }) ∙ (λ j. record { id = id_at r (g j); body = b; note = note }) ∙ (λ j. record { id = id_at r (greatest r (h j) + 1); body = b; note = note })

pub one_joins : (x : Content) (r note : List ℕ) (b : Body) (o : Op) → IsContent x → o ≡ record { id = id_at r (greatest r x.seen + 1); body = b; note = note } → joined x (state (one o)) ≡ Ok (merged x (state (one o)))
one_joins x r note b o is e = numbers_join x r note (b ∷ []) is (one o) (ap one e)

-- an Enter has no objection
pub enter_done : (x y : Content) (r note text : List ℕ) (o : Op) (i : Id) → note_fault note ≡ None → o ≡ record { id = id_at r (greatest r x.seen + 1); body = Enter text; note = note } → i ≡ o.id → greatest r x.seen + 1 ≤ 4294967295 → joined x (state (one o)) ≡ Ok y
    → Does x r note (Enter text ∷ []) y (i ∷ [])
enter_done x y r note text o i a e f h j = record {
  ops = record { id = id_at r (greatest r x.seen + 1); body = Enter text; note = note } ∷ [];
  are_made = made_ok x r note (Enter text ∷ []) a refl h;
  are_joined = (λ k. joined x (state (one (sym e k)))) ∙ j;
  their_ids = (λ k. f k ∷ []) ∙ (λ k. (e k).id ∷ []);
}

-- ---- the register of new operations

in_ids : (os : List Op) (o : Op) → has os o ≡ true → list_any (eq_by_cmp id_cmp o.id) (map (λ (p : Op). p.id) os) ≡ true
in_ids [] o h = absurd (true≢false (sym h))
in_ids (p ∷ os) o h = elim (op_cases o p os h) [
  | inl e ↦ or_left _ _ (subst (λ (q : Op). eq_by_cmp id_cmp o.id q.id ≡ true) e (ap is_eq (tied_itself id_total o.id)))
  | inr e ↦ or_right (eq_by_cmp id_cmp o.id p.id) _ (in_ids os o e)
]

-- a set that has the run of their ids has the id of each
pub run_has : (os : List Op) (run : Run) (v w : Ids) → map (λ (o : Op). o.id) os ≡ ids_of_run run → v ≡ set.empty → w ≡ set.union v (set.from_list (ids_of_run run)) → (o : Op) → has os o ≡ true → contains w o.id ≡ true
run_has os run v w e f g o h =
    ap (λ t. contains t o.id) g
    ∙ set.contains-union id_total v (set.from_list (ids_of_run run)) o.id
    ∙ or_right (contains v o.id) _ (contains-from_list id_total (ids_of_run run) o.id ∙ ap (list_any (eq_by_cmp id_cmp o.id)) (sym e) ∙ in_ids os o h)

pub ids_are : (os : List Op) (run : Run) (v w : Ids) → ById os → map (λ (o : Op). o.id) os ≡ ids_of_run run → v ≡ set.empty → w ≡ set.union v (set.from_list (ids_of_run run)) → w ≡ ids (set.from_list {R = op_cmp} os)
ids_are os run v w up e f g =
    g ∙ (λ j. set.union (f j) (set.from_list (ids_of_run run))) ∙ union-empty id_total id_exact (set.from_list (ids_of_run run))
    ∙ ap set.from_list (sym e) ∙ (λ j. set.from_list (map (λ (o : Op). o.id) (sym (items_are os up) j)))

pub state_is : (os : List Op) (w : Ids) (r : Content) → r ≡ content_at os w → IsContent r → w ≡ ids (set.from_list {R = op_cmp} os) → r ≡ state (set.from_list {R = op_cmp} os)
state_is os w r e is f = e ∙ same_content (content_at os w) (state (set.from_list os)) (sym (subst (λ (x : Content). kept x.ops ≡ x.ops) e is.is_kept)) f

-- the ids of numbered operations are those of a run
pub run_of_numbered : (r : List ℕ) (n high : ℕ) (note : List ℕ) (bs : List Body) (os : List Op) → 0 < length bs → high ≡ n + (length bs - 1) → os ≡ numbered r n note bs → map (λ (o : Op). o.id) os ≡ ids_of_run (record { replica = r; low = n; high = high })
run_of_numbered r n high note bs os p h e =
    let count : length bs ≡ high + 1 - n = omega arith in
    ap (map (λ (o : Op). o.id)) e ∙ numbered_ids r n note bs ∙ ap (ids_from r n) count

-- a command without effects changes nothing
pub none_done : (x : Content) (r note : List ℕ) (bs : List Body) (is : List Id) → note_fault note ≡ None → IsContent x → length bs ≡ 0 → is ≡ [] → Does x r note bs x is
none_done x r note [] is a content h e = record {
  ops = [];
  are_made = λ j. made_unless (else_next (a j) None) false [];
  are_joined = ap (joined x) state-empty ∙ joined_comm x nothing ∙ joined_nothing x content;
  their_ids = e;
}
none_done x r note (b ∷ bs) is a content h e = absurd (omega arith)

pub none_above : (v : Ids) (run : Run) → v ≡ set.empty → IsAbove v run
none_above v run e i h = absurd (true≢false (sym h ∙ ap (λ t. contains t i) e ∙ contains-empty id_cmp i))
