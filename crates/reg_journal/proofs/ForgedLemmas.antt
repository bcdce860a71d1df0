-- Ids that somebody else gave in an office's name.
use Rattle.std.proofs.Common.{◌≡◌, ◌⊎◌, ℕ, ◌+◌, ◌<◌, ◌≤◌, max, Bool, true, false, not, ◌&&◌, ◌||◌, List, [], ◌∷◌, length, get_or, IfSome, IfNone, IsSome, Option, Some, None, refl, sym, ap, ◌∙◌, subst, inl, inr, arith, nat_lt}
use Rattle.std.proofs.lemmas.Bool.{true≢false, or_cases, or_left, or_right, and_from, and_parts, false_from_ne_true, ltb-true, lt-ltb}
use Rattle.std.specs.List.{list_any}
use Rattle.std.specs.Cmp.{both_ways, tied_itself, Equal-is}
use Rattle.std.specs.Ordering.{is_eq, eq_by_cmp}
use Rattle.std.proofs.lemmas.List.Folds.{list_any_at}
use Rattle.std.proofs.Math.Bool.{and-or_distrib_left, or_assoc}
use Rattle.reg_op.specs.Set as set
use Rattle.reg_op.specs.Set.{contains, contains-items}
use Rattle.reg_op.specs.Ids.{Id, is_before, is_same}
use Rattle.reg_op.specs.Operations.{Op, Ops, op_cmp, named_in, replaces}
use Rattle.reg_op.specs.Lists.{has, ById}
use Rattle.reg_op.specs.declared.operation.OpBody.{OpBody as Body}
use Rattle.reg_op.specs.declared.operation.OpBody.TheVariants.{Supersede, Retire}
use Rattle.reg_op.specs.Contents.{Content}
use Rattle.reg_op.proofs.OpLemmas.{op_total, op_exact, is_same_exact, not_before_itself}
use Rattle.reg_state.specs.declared.run.Run.{Run}
use Rattle.reg_state.specs.Runs.{IsBelow, IsBeyond, replica_cmp, id_at, first_of, is_in_run, is_in_runs, AreRuns, seen_of}
use Rattle.reg_state.proofs.RunLemmas.{contains-seen_of, same_replica, replica_itself, not_below_same}
use Rattle.reg_state.proofs.SearchLemmas.{within, in_run, past_of}
use Rattle.reg_state.proofs.CanonLemmas.{far_from}
use Rattle.reg_office.proofs.NumberLemmas.{op_cases}
use Rattle.reg_journal.specs.Journal.{Journal, is_own}
use Rattle.reg_journal.specs.Standing.{Leasts, is_known, is_forged, tells_forged}
use Rattle.reg_journal.specs.Adding.{is_new}
use Rattle.reg_journal.proofs.LeastLemmas.{leasts_same}
use Rattle.reg_file.proofs.BodyLemmas.{same_itself}
use Rattle.reg_report.proofs.EntryLemmas.{is_after_first}

-- ---- tests of several parts

pub shared_inside : (a b c d : Bool) → ((a && (b && c)) || (a && (b && d))) ≡ (a && (b && (c || (d || false))))
shared_inside false b c d = refl
shared_inside true false c d = refl
shared_inside true true true d = refl
shared_inside true true false true = refl
shared_inside true true false false = refl

pub one_inside : (a b c : Bool) → (a && (b && c)) ≡ (a && (b && (c || false)))
one_inside false b c = refl
one_inside true false c = refl
one_inside true true true = refl
one_inside true true false = refl

-- ---- an id that an effect names

abbrev pub names_above : Journal → Id → Id → Bool
names_above f id i = is_own f.replica i && (nat_lt f.last i.count && is_same i id)

pub names_one : (f : Journal) (id i : Id) → names_above f id i ≡ true → i ≡ id
names_one f id i h = is_same_exact i id (and_parts _ _ (and_parts _ _ h).1).1

pub names_it : (f : Journal) (id : Id) → is_own f.replica id ≡ true → nat_lt f.last id.count ≡ true → names_above f id id ≡ true
names_it f id h k = and_from _ _ h (and_from _ _ k (same_itself id))

pub names_not : (f : Journal) (id : Id) → is_new f id ≡ false → names_above f id id ≡ false
names_not f id h = false_from_ne_true _ (λ k.
    let p = and_parts (is_own f.replica id) (nat_lt f.last id.count && is_same id id) k in
    true≢false (sym (and_from (is_own f.replica id) (nat_lt f.last id.count) p.0 (and_parts (nat_lt f.last id.count) (is_same id id) p.1).0) ∙ h))

-- the ids above the last number that an effect names
abbrev pub names_any : Journal → Body → Id → Bool
names_any f b i = is_own f.replica i && (nat_lt f.last i.count && list_any (is_same i) (named_in b))

pub named_two : (f : Journal) (b : Body) (old newer : Id) (r : Option Id) → b ≡ Supersede old newer → Leasts (λ i. names_above f old i || names_above f newer i) r → Leasts (names_any f b) r
named_two f b old newer r e h = leasts_same (λ i. names_above f old i || names_above f newer i) (names_any f b)
    (λ i. shared_inside (is_own f.replica i) (nat_lt f.last i.count) (is_same i old) (is_same i newer) ∙ (λ k. names_any f (sym e k) i)) r h

pub named_one : (f : Journal) (b : Body) (entry : Id) (r : Option Id) → b ≡ Retire entry → Leasts (names_above f entry) r → Leasts (names_any f b) r
named_one f b entry r e h = leasts_same (names_above f entry) (names_any f b)
    (λ i. one_inside (is_own f.replica i) (nat_lt f.last i.count) (is_same i entry) ∙ (λ k. names_any f (sym e k) i)) r h

-- ---- an operation that the office did not make

abbrev pub misuses : Journal → Op → Id → Bool
misuses f o i = is_own f.replica i && (is_same i o.id && not (is_known f.made.ops o))

pub misuses_one : (f : Journal) (o : Op) (i : Id) → misuses f o i ≡ true → i ≡ o.id
misuses_one f o i h = is_same_exact i o.id (and_parts _ _ (and_parts _ _ h).1).0

pub misuses_it : (f : Journal) (o : Op) → (is_own f.replica o.id && not (is_known f.made.ops o)) ≡ true → misuses f o o.id ≡ true
misuses_it f o h = let p = and_parts _ _ h in and_from _ _ p.0 (and_from _ _ (same_itself o.id) p.1)

pub misuses_not : (f : Journal) (o : Op) → (is_own f.replica o.id && not (is_known f.made.ops o)) ≡ false → misuses f o o.id ≡ false
misuses_not f o h = false_from_ne_true _ (λ k.
    let p = and_parts (is_own f.replica o.id) (is_same o.id o.id && not (is_known f.made.ops o)) k in
    true≢false (sym (and_from (is_own f.replica o.id) (not (is_known f.made.ops o)) p.0 (and_parts (is_same o.id o.id) (not (is_known f.made.ops o)) p.1).1) ∙ h))

-- an operation tells of the ids that its effect names, and of its own
pub told_two : (f : Journal) (o : Op) (b : Body) (s : Option Id) → b ≡ o.body → Leasts (λ i. names_any f b i || misuses f o i) s → Leasts (λ i. is_own f.replica i && tells_forged f i o) s
told_two f o b s e h = leasts_same (λ i. names_any f b i || misuses f o i) (λ i. is_own f.replica i && tells_forged f i o)
    (λ i. (λ k. names_any f (e k) i || misuses f o i) ∙ sym (and-or_distrib_left (is_own f.replica i) (nat_lt f.last i.count && list_any (is_same i) (named_in o.body)) (is_same i o.id && not (is_known f.made.ops o)))) s h

-- ---- operations by id

-- no two operations of a list by id have one id
pub one_by_id : (os : List Op) (p o : Op) → ById os → has os p ≡ true → has os o ≡ true → p.id ≡ o.id → p ≡ o
one_by_id [] p o up h k same = absurd (true≢false (sym h))
one_by_id (x ∷ os) p o up h k same =
    elim (op_cases p x os h) [
      | inl a ↦ elim (op_cases o x os k) [
        | inl b ↦ a ∙ sym b
        | inr b ↦ absurd (not_before_itself o.id (subst (λ i. is_before i o.id ≡ true) (ap (λ (q : Op). q.id) (sym a) ∙ same) (is_after_first x.id os o up.0 b)))
      ]
      | inr a ↦ elim (op_cases o x os k) [
        | inl b ↦ absurd (not_before_itself p.id (subst (λ i. is_before i p.id ≡ true) (ap (λ (q : Op). q.id) (sym b) ∙ sym same) (is_after_first x.id os p up.0 a)))
        | inr b ↦ one_by_id os p o up.1 a b same
      ]
    ]

pub has_any : (os : List Op) (o : Op) (i : Id) → has os o ≡ true → i ≡ o.id → list_any (λ p. is_same i p.id) os ≡ true
has_any [] o i h e = absurd (true≢false (sym h))
has_any (x ∷ os) o i h e = elim (op_cases o x os h) [
  | inl a ↦ or_left _ (list_any (λ p. is_same i p.id) os) (subst (λ j. is_same i j ≡ true) (e ∙ ap (λ (q : Op). q.id) a) (same_itself i))
  | inr a ↦ or_right (is_same i x.id) _ (has_any os o i a e)
]

-- an operation of the set has the id: another one with it is not known
pub known_by : (s : Ops) (own o : Op) → ById (set.items s) → has (set.items s) own ≡ true → own.id ≡ o.id → is_eq (op_cmp own o) ≡ is_known s o
known_by s own o up h same =
    both_ways (is_eq (op_cmp own o)) (is_known s o)
    (λ e.
    let is : own ≡ o = op_exact own o ((Equal-is (op_cmp own o)).0 e) in
    or_left (contains s o) _ (contains-items s o ∙ subst (λ (q : Op). has (set.items s) q ≡ true) is h))
    (λ e. elim (or_cases (contains s o) _ e) [
      | inl a ↦
          let is : own ≡ o = one_by_id (set.items s) own o up h (sym (contains-items s o) ∙ a) same in
          subst (λ (q : Op). is_eq (op_cmp own q) ≡ true) is (ap is_eq (tied_itself op_total own))
      | inr a ↦ absurd (true≢false (sym (and_parts _ _ a).0 ∙ ap not (has_any (set.items s) own o.id h (sym same))))
    ])

-- no operation of the set has the id
pub known_beside : (s : Ops) (o : Op) → list_any (λ p. is_same o.id p.id) (set.items s) ≡ false → list_any (λ p. replaces p o) (set.items s) ≡ is_known s o
known_beside s o none =
    let absent : contains s o ≡ false = false_from_ne_true _ (λ h. true≢false (sym (has_any (set.items s) o o.id (sym (contains-items s o) ∙ h) refl) ∙ none)) in
    sym (λ k. absent k || (not (none k) && list_any (λ p. replaces p o) (set.items s)))

-- a search by id
module _ {X : Type 0} (r : Option X) (view : X → Op) (os : List Op) (k : ℕ) (o : Op) (i : Id) where
  pub found_op : k < length os → get_or os k o ≡ o → IfSome r (λ x. (view x ≡ o) × ((view x).id ≡ i)) → IfSome r (λ x. (has os (view x) ≡ true) × ((view x).id ≡ i))
  found_op lt at h = elim r as (λ q. IfSome q (λ x. (view x ≡ o) × ((view x).id ≡ i)) → IfSome q (λ x. (has os (view x) ≡ true) × ((view x).id ≡ i))) [
    | None ↦ λ e. tt
    | Some x ↦ λ e. (subst (λ (q : Op). has os q ≡ true) (sym e.0) (list_any_at (eq_by_cmp op_cmp o) os k o lt (ap (λ (q : Op). eq_by_cmp op_cmp o q) at ∙ ap is_eq (tied_itself op_total o))), e.1)
  ] h

pub none_op : {X : Type 0} (r : Option X) (a b : Bool) → b ≡ a → IfNone r (a ≡ false) → IfNone r (b ≡ false)
none_op r a b e h = elim r as (λ q. IfNone q (a ≡ false) → IfNone q (b ≡ false)) [ None ↦ λ f. e ∙ f | Some x ↦ λ f. tt ] h

-- ---- the first run with a number above the last one

abbrev pub is_above : List ℕ → ℕ → List Run → Id → Bool
is_above r last rs i = is_own r i && (nat_lt last i.count && is_in_runs i rs)

-- a run without such a number is left out
pub above_rest : (r : List ℕ) (last : ℕ) (run : Run) (runs rest : List Run) → runs ≡ run ∷ rest → (is_own r (first_of run) && nat_lt last run.high) ≡ false
    → (i : Id) → is_above r last runs i ≡ is_above r last rest i
above_rest r last run runs rest e none i =
    (λ k. is_above r last (e k) i)
    ∙ both_ways (is_above r last (run ∷ rest) i) (is_above r last rest i)
    (λ h.
    let p = and_parts _ _ h in
    let q = and_parts _ _ p.1 in
    and_from _ _ p.0 (and_from _ _ q.0 (elim (or_cases (is_in_run i run) (is_in_runs i rest) q.1) [
      | inl a ↦
          let w = within i run a in
          let over : nat_lt last run.high ≡ true = lt-ltb last run.high (let l = ltb-true last i.count q.0 in omega (arith, l, w.high)) in
          let own : is_own r (first_of run) ≡ true = subst (λ s. is_eq (replica_cmp s r) ≡ true) w.replica p.0 in
          absurd (true≢false (sym (and_from _ _ own over) ∙ none))
      | inr b ↦ b
    ])))
    (λ h.
    let p = and_parts _ _ h in
    let q = and_parts _ _ p.1 in
    and_from _ _ p.0 (and_from _ _ q.0 (or_right (is_in_run i run) _ q.1)))

-- in the first run with such a number, the least one is its first number, or the one after the last
pub above_first : (r : List ℕ) (last n : ℕ) (run : Run) (runs rest : List Run) → runs ≡ run ∷ rest → AreRuns runs → (is_own r (first_of run) && nat_lt last run.high) ≡ true → n ≡ max run.low (last + 1)
    → Leasts (is_above r last runs) (Some (id_at r n))
above_first r last n run runs rest e are here is = leasts_same (is_above r last (run ∷ rest)) (is_above r last runs) (λ i k. is_above r last (sym e k) i) (Some (id_at r n)) (record {
  passes = and_from _ _ (replica_itself r) (and_from _ _ (lt-ltb last n (omega (arith, is))) (or_left (is_in_run (id_at r n) run) (is_in_runs (id_at r n) rest) inside));
  least = λ i h. false_from_ne_true _ (λ b. sooner i h (past_of (id_at r n) (record { replica = i.replica; low = 0; high = i.count }) b));
})
  where
    parts : (is_own r (first_of run) ≡ true) × (nat_lt last run.high ≡ true)
    parts = and_parts (is_own r (first_of run)) (nat_lt last run.high) here

    own : run.replica ≡ r
    own = same_replica run.replica r parts.0

    first : AreRuns (run ∷ rest)
    first = subst AreRuns e are

    low_high : run.low ≤ run.high
    low_high = (first_of_runs run rest first).1
      where
        first_of_runs : (a : Run) (more : List Run) → AreRuns (a ∷ more) → (1 ≤ a.low) × (a.low ≤ a.high)
        first_of_runs a [] h = h
        first_of_runs a (b ∷ more) h = h.0

    inside : is_in_run (id_at r n) run ≡ true
    inside = let l = ltb-true last run.high parts.1 in let lh = low_high in in_run (id_at r n) run (record { replica = sym own; low = omega (arith, is); high = omega (arith, is, l, lh) })

    sooner : (i : Id) → is_above r last (run ∷ rest) i ≡ true → IsBelow i.replica r ⊎ ((i.replica ≡ r) × (i.count < n)) → ⊥
    sooner i h (inl a) = not_below_same i.replica r (same_replica i.replica r (and_parts _ _ h).0) a
    sooner i h (inr a) =
        let q = and_parts _ _ (and_parts _ _ h).1 in
        let over = ltb-true last i.count q.0 in
        elim (or_cases (is_in_run i run) (is_in_runs i rest) q.1) [
          | inl b ↦ let w = within i run b in omega (arith, is, over, w.low, a.1)
          | inr b ↦ later i a (far_from run rest i first b)
        ]
      where
        later : (i : Id) → (i.replica ≡ r) × (i.count < n) → IsBeyond run i → ⊥
        later i a (inl b) = not_below_same run.replica i.replica (own ∙ sym a.0) b
        later i a (inr b) = let l = ltb-true last run.high parts.1 in let lh = low_high in omega (arith, is, l, lh, a.1, b.1)

-- ---- all operations

abbrev pub is_told : Journal → List Op → Id → Bool
is_told f os i = is_own f.replica i && list_any (tells_forged f i) os

-- of which some operations tell, and the rest does
pub told_more : (f : Journal) (ops rest more : List Op) (o : Op) (t : Id → Bool) → rest ≡ o ∷ more → ((i : Id) → is_told f ops i ≡ (t i || is_told f rest i))
    → (i : Id) → is_told f ops i ≡ ((t i || (is_own f.replica i && tells_forged f i o)) || is_told f more i)
told_more f ops rest more o t e so_far i =
    so_far i
    ∙ (λ k. t i || is_told f (e k) i)
    ∙ ap (λ b. t i || b) (and-or_distrib_left (is_own f.replica i) (tells_forged f i o) (list_any (tells_forged f i) more))
    ∙ sym (or_assoc (t i) (is_own f.replica i && tells_forged f i o) (is_told f more i))

-- ---- a whole register

pub forged_whole : (f : Journal) (x : Content) (runs : List Run) (ops : List Op) (r : Option Id) → seen_of runs ≡ x.seen → ops ≡ set.items x.ops
    → Leasts (λ i. is_above f.replica f.last runs i || is_told f ops i) r → Leasts (is_forged f x) r
forged_whole f x runs ops r seen all h = leasts_same (λ i. is_above f.replica f.last runs i || is_told f ops i) (is_forged f x)
    (λ i.
    sym (and-or_distrib_left (is_own f.replica i) (nat_lt f.last i.count && is_in_runs i runs) (list_any (tells_forged f i) ops))
    ∙ (λ k. is_own f.replica i && ((nat_lt f.last i.count && (sym (contains-seen_of runs i) ∙ ap (λ s. contains s i) seen) k) || list_any (tells_forged f i) (all k)))) r h

-- a new id is the least one
pub leasts_new : (r : Option Id) (t : Id → Bool) (j : Id) → IsSome r → IfSome r (λ i. i ≡ j) → Leasts t (Some j) → Leasts t r
leasts_new r t j some is h = elim r as (λ q. IsSome q → IfSome q (λ i. i ≡ j) → Leasts t q) [
  | None ↦ λ s e. absurd (true≢false (sym s))
  | Some i ↦ λ s e. subst (λ k. Leasts t (Some k)) (sym e) h
] some is
