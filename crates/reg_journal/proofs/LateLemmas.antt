-- A command that was stopped, run again.
use Rattle.std.proofs.Common.{◌≡◌, ◌⊎◌, inl, inr, ℕ, zero, suc, ◌+◌, ◌<◌, ◌≤◌, Bool, true, false, ◌&&◌, List, [], ◌∷◌, length, refl, sym, ap, ◌∙◌, subst, arith, nat_lt}
use Rattle.std.proofs.lemmas.Bool.{true≢false, and_from, and_parts, false_from_ne_true, lt-ltb}
use Rattle.std.specs.List.{list_all, list_any}
use Rattle.std.specs.Cmp.{both_ways, tied_itself}
use Rattle.std.specs.Ordering.{is_eq}
use Rattle.reg_op.specs.Set as set
use Rattle.reg_op.specs.Set.{contains, contains-items}
use Rattle.reg_op.specs.Ids.{Id, Ids, is_same}
use Rattle.reg_op.specs.Operations.{Op}
use Rattle.reg_op.specs.declared.operation.OpBody.{OpBody as Body}
use Rattle.reg_op.specs.declared.operation.OpBody.TheVariants.{Enter}
use Rattle.reg_op.specs.Contents.{Content, IsContent}
use Rattle.reg_op.specs.Lists.{ById, has}
use Rattle.reg_op.specs.Status.{enters, is_enter}
use Rattle.reg_op.proofs.OpLemmas.{op_total, op_exact, id_total}
use Rattle.reg_op.proofs.FiniteLemmas.{any_from_member}
use Rattle.reg_state.specs.Runs.{id_at}
use Rattle.reg_state.proofs.RunLemmas.{replica_itself}
use Rattle.reg_office.specs.Making.{greatest, numbered}
use Rattle.reg_office.proofs.NumberLemmas.{count-greatest, greatest_there, op_cases}
use Rattle.reg_journal.specs.Journal.{is_own}
use Rattle.reg_journal.specs.Again.{is_found, is_again}
use Rattle.reg_journal.proofs.ForgedLemmas.{one_by_id, has_any}

found_there : (seen : Ids) (y : Content) (o : Op) → is_found seen y.ops o ≡ true → contains y.ops o ≡ true
found_there seen y o h = (and_parts _ _ (and_parts _ _ h).0).0

module _ (seen : Ids) (y : Content) (r note : List ℕ) (is : IsContent y) where
  abbrev pub all_found : ℕ → List Body → Bool
  all_found n es = list_all (is_found seen y.ops) (numbered r n note es)

  first_found : (n : ℕ) (e : Body) (es : List Body) → all_found n (e ∷ es) ≡ true → contains y.ops (record { id = id_at r n; body = e; note = note }) ≡ true
  first_found n e es h = found_there seen y _ (and_parts _ _ h).0

  -- the last number is one that the join has seen, and the first is not 0
  found_bound : (n : ℕ) (e : Body) (es : List Body) → all_found n (e ∷ es) ≡ true → n + length es ≤ greatest r y.seen
  found_bound n e [] h =
      let top = count-greatest r y.seen (id_at r n) (is.are_seen _ (first_found n e [] h)) refl in
      omega (arith, top)
  found_bound n e (f ∷ es) h = let top = found_bound (n + 1) f es (and_parts _ _ h).1 in omega (arith, top)

  found_positive : (n : ℕ) (e : Body) (es : List Body) → all_found n (e ∷ es) ≡ true → 1 ≤ n
  found_positive n e es h = (is.are_ids (id_at r n) (is.are_seen _ (first_found n e es h))).positive

  again_bound : (m : ℕ) (es : List Body) → is_again seen y.ops r note es m ≡ true → (1 ≤ m) × (m + length es ≤ greatest r y.seen + 1)
  again_bound m [] h = absurd (true≢false (sym h))
  again_bound m (e ∷ es) h =
      let l = (and_parts (nat_lt 0 (length (e ∷ es))) (all_found m (e ∷ es)) h).1 in
      let top = found_bound m e es l in
      (found_positive m e es l, omega (arith, top))

  -- no such number is above the greatest one that leaves room for all effects
  pub none_beyond : (m g : ℕ) (es : List Body) → g ≡ greatest r y.seen → g + 1 < m + length es → is_again seen y.ops r note es m ≡ false
  none_beyond m g es eg over = false_from_ne_true _ (λ h. let b = (again_bound m es h).1 in omega (arith, b, eg, over))

  -- there are not as many numbers as effects
  pub none_fits : (g : ℕ) (es : List Body) → g ≡ greatest r y.seen → g < length es → (m : ℕ) → is_again seen y.ops r note es m ≡ false
  none_fits g es eg over m = false_from_ne_true _ (λ h. let b = again_bound m es h in omega (arith, b.0, b.1, eg, over))

  pub none_at_zero : (es : List Body) → is_again seen y.ops r note es 0 ≡ false
  none_at_zero es = false_from_ne_true _ (λ h. let b = (again_bound 0 es h).0 in omega (arith, b))

  pub none_of_none : (es : List Body) → length es ≡ 0 → (m : ℕ) → is_again seen y.ops r note es m ≡ false
  none_of_none [] e m = refl
  none_of_none (x ∷ es) e m = absurd (omega arith)

  pub again_at : (es : List Body) (m : ℕ) → 0 < length es → all_found m es ≡ is_again seen y.ops r note es m
  again_at es m h = ap (λ b. b && all_found m es) (sym (lt-ltb 0 (length es) h))

-- the greatest number fits 32 bits
pub greatest_fits : (r : List ℕ) (y : Content) → IsContent y → greatest r y.seen ≤ 4294967295
greatest_fits r y is =
    up_to (greatest r y.seen) (λ some.
    let fits = (is.are_ids (id_at r (greatest r y.seen)) (contains-items y.seen (id_at r (greatest r y.seen)) ∙ greatest_there r (set.items y.seen) some)).fits in
    omega (arith, fits))
  where
    up_to : (a : ℕ) → (0 < a → a ≤ 4294967295) → a ≤ 4294967295
    up_to zero h = omega arith
    up_to (suc a) h = h (omega arith)

-- ---- numbers in a list of operations

-- an operation of the list has the number
abbrev pub HasNumber : List ℕ → List Op → ℕ → Type 0
HasNumber r os m = (o : Op) × (has os o ≡ true) × (o.id ≡ id_at r m)

-- each number that passes a test is at most this one, or an operation of the list has it
abbrev pub Covers : List ℕ → (ℕ → Bool) → ℕ → List Op → Type 0
Covers r t last os = (m : ℕ) → t m ≡ true → (m ≤ last) ⊎ HasNumber r os m

pub all_covered : (seen : Ids) (y : Content) (r note : List ℕ) (es : List Body) (os : List Op) → IsContent y → os ≡ set.items y.ops
    → Covers r (is_again seen y.ops r note es) 0 os
all_covered seen y r note [] os is e m h = absurd (true≢false (sym h))
all_covered seen y r note (b ∷ es) os is e m h =
    let first = first_found seen y r note is m b es (and_parts (nat_lt 0 (length (b ∷ es))) (all_found seen y r note is m (b ∷ es)) h).1 in
    let o : Op = record { id = id_at r m; body = b; note = note } in
    inr (o, subst (λ l. has l o ≡ true) (sym e) (sym (contains-items y.ops o) ∙ first), refl)

-- the first operation of the list is looked at
pub covers_more : (r : List ℕ) (t : ℕ → Bool) (last new : ℕ) (os more : List Op) (o : Op) → os ≡ o ∷ more → last ≤ new
    → (is_own r o.id ≡ true → t o.id.count ≡ true → o.id.count ≤ new) → Covers r t last os → Covers r t new more
covers_more r t last new os more o e grows here covers m h = elim (covers m h) [
  | inl b ↦ inl (omega (arith, b, grows))
  | inr p ↦ elim (op_cases p.0 o more (subst (λ l. has l p.0 ≡ true) e p.1)) [
    | inl same ↦
        let at : o.id ≡ id_at r m = ap (λ (q : Op). q.id) (sym same) ∙ p.2 in
        let own : is_own r o.id ≡ true = subst (λ i. is_own r i ≡ true) (sym at) (replica_itself r) in
        let count : o.id.count ≡ m = ap (λ (i : Id). i.count) at in
        inl (subst (λ n. n ≤ new) count (here own (subst (λ n. t n ≡ true) (sym count) h)))
    | inr b ↦ inr (p.0, b, p.2)
  ]
]

-- no operation is left
pub covers_all : (r : List ℕ) (t : ℕ → Bool) (last m : ℕ) (os : List Op) → length os ≡ 0 → Covers r t last os → t m ≡ true → m ≤ last
covers_all r t last m [] e covers h = elim (covers m h) [ inl b ↦ b | inr p ↦ absurd (true≢false (sym p.1)) ]
covers_all r t last m (o ∷ os) e covers h = absurd (omega arith)

-- ---- an operation of a register

-- the register has an operation with this id: it has another one with it exactly if they are equal
pub has_same : (y : Content) (ops : List Op) (o : Op) (i : Id) (b : Body) (note : List ℕ) (same : Bool) → ops ≡ set.items y.ops → ById ops → has ops o ≡ true → o.id ≡ i
    → (same ≡ true → (o.body ≡ b) × (o.note ≡ note)) → (o.body ≡ b → o.note ≡ note → same ≡ true)
    → same ≡ contains y.ops (record { id = i; body = b; note = note })
has_same y ops o i b note same are up there at to from =
    both_ways _ _
    (λ h.
    let p = to h in
    let is : ◌≡◌ {A = Op} o (record { id = i; body = b; note = note }) = λ k. record { id = at k; body = p.0 k; note = p.1 k } in
    contains-items y.ops _ ∙ subst (λ l. has l (record { id = i; body = b; note = note }) ≡ true) are (subst (λ (q : Op). has ops q ≡ true) is there))
    (λ h.
    let other : has ops (record { id = i; body = b; note = note }) ≡ true = subst (λ l. has l (record { id = i; body = b; note = note }) ≡ true) (sym are) (sym (contains-items y.ops _) ∙ h) in
    let is = one_by_id ops o _ up there other at in
    from (ap (λ (q : Op). q.body) is) (ap (λ (q : Op). q.note) is))

pub has_none : (y : Content) (ops : List Op) (i : Id) (b : Body) (note : List ℕ) → ops ≡ set.items y.ops → list_any (λ p. is_same i p.id) ops ≡ false → false ≡ contains y.ops (record { id = i; body = b; note = note })
has_none y ops i b note are none =
    sym (false_from_ne_true _ (λ h.
    let other : has ops (record { id = i; body = b; note = note }) ≡ true = subst (λ l. has l (record { id = i; body = b; note = note }) ≡ true) (sym are) (sym (contains-items y.ops _) ∙ h) in
    true≢false (sym (has_any ops _ i other refl) ∙ none)))

-- an entry that an operation of the register enters is entered
pub entered : (y : Content) (i : Id) (text note : List ℕ) → contains y.ops (record { id = i; body = Enter text; note = note }) ≡ true → enters y.ops i ≡ true
entered y i text note h = any_from_member op_total op_exact (λ o. is_same i o.id && is_enter o.body) y.ops _ h (and_from _ _ (ap is_eq (tied_itself id_total i)) refl)
