-- The numbers that an office gave, and its own operations.
use Rattle.std.proofs.Common.{◌≡◌, ℕ, ◌+◌, ◌-◌, ◌≤◌, Bool, true, false, List, [], ◌∷◌, zero, suc, refl, sym, ap, ◌∙◌, subst, inl, inr, arith, append-nil}
use Rattle.std.proofs.lemmas.Bool.{true≢false, or_cases, or_left}
use Rattle.std.specs.Ordering.{is_eq}
use Rattle.reg_op.specs.Set as set
use Rattle.reg_op.specs.Set.{contains}
use Rattle.reg_op.specs.Ids.{Id, Ids, id_cmp}
use Rattle.reg_op.specs.Operations.{Op}
use Rattle.reg_state.specs.declared.run.Run.{Run}
use Rattle.reg_state.specs.Runs.{replica_cmp, ids_from, is_in_run, AreRuns, seen_of}
use Rattle.reg_state.proofs.RunLemmas.{contains-seen_of, same_replica, replica_itself}
use Rattle.reg_state.proofs.CanonLemmas.{same_runs}
use Rattle.reg_state.proofs.SearchLemmas.{within, in_run}
use Rattle.reg_journal.specs.Journal.{Journal, numbers, IsOffice, is_own}
use Rattle.reg_journal.specs.Runs.{from_first, runs_to}

pub are_runs_to : (r : List ℕ) (n : ℕ) → AreRuns (runs_to r n)
are_runs_to r zero = tt
are_runs_to r (suc n) = (omega arith, omega arith)

-- the ids from a number on, as a run
pub ids_are_run : (r : List ℕ) (low high n : ℕ) → n ≡ high + 1 - low → set.from_list {R = id_cmp} (ids_from r low n) ≡ seen_of (record { replica = r; low = low; high = high } ∷ [])
ids_are_run r low high n e = (λ k. set.from_list (ids_from r low (e k))) ∙ ap (λ (is : List Id). set.from_list is) (sym (append-nil (ids_from r low (high + 1 - low))))

pub numbers_runs : (r : List ℕ) (n : ℕ) → numbers r n ≡ seen_of (runs_to r n)
numbers_runs r zero = refl
numbers_runs r (suc n) = ids_are_run r 1 (suc n) (suc n) (omega arith)

-- the runs that have exactly the numbers up to the last one
pub runs_are : (r : List ℕ) (n : ℕ) (rs : List Run) (s : Ids) → AreRuns rs → seen_of rs ≡ s → s ≡ numbers r n → rs ≡ runs_to r n
runs_are r n rs s are e is = same_runs rs (runs_to r n) are (are_runs_to r n) (e ∙ is ∙ numbers_runs r n)

pub are_numbers : (r : List ℕ) (n : ℕ) (rs : List Run) (s : Ids) → seen_of rs ≡ s → rs ≡ runs_to r n → s ≡ numbers r n
are_numbers r n rs s e is = sym e ∙ ap seen_of is ∙ sym (numbers_runs r n)

pub record IsNumber (r : List ℕ) (first last : ℕ) (i : Id) : Type 0 where
  pub own : i.replica ≡ r
  pub low : first ≤ i.count
  pub high : i.count ≤ last

none_seen : (i : Id) → contains (seen_of []) i ≡ true → ⊥
none_seen i h = true≢false (sym h ∙ contains-seen_of [] i)

pub run_in : (r : List ℕ) (low high : ℕ) (i : Id) → contains (seen_of (record { replica = r; low = low; high = high } ∷ [])) i ≡ true → IsNumber r low high i
run_in r low high i h =
    let run : Run = record { replica = r; low = low; high = high } in
    elim (or_cases (is_in_run i run) false (sym (contains-seen_of (run ∷ []) i) ∙ h)) [
      | inl a ↦ let w = within i run a in record { own = w.replica; low = w.low; high = w.high }
      | inr b ↦ absurd (true≢false (sym b))
    ]

pub in_run_of : (r : List ℕ) (low high : ℕ) (i : Id) → IsNumber r low high i → contains (seen_of (record { replica = r; low = low; high = high } ∷ [])) i ≡ true
in_run_of r low high i is =
    let run : Run = record { replica = r; low = low; high = high } in
    contains-seen_of (run ∷ []) i ∙ or_left (is_in_run i run) false (in_run i run (record { replica = is.own; low = is.low; high = is.high }))

pub numbers_in : (r : List ℕ) (n : ℕ) (i : Id) → contains (numbers r n) i ≡ true → IsNumber r 1 n i
numbers_in r zero i h = absurd (none_seen i (subst (λ s. contains s i ≡ true) (numbers_runs r zero) h))
numbers_in r (suc n) i h = run_in r 1 (suc n) i (subst (λ s. contains s i ≡ true) (numbers_runs r (suc n)) h)

pub in_numbers : (r : List ℕ) (n : ℕ) (i : Id) → IsNumber r 1 n i → contains (numbers r n) i ≡ true
in_numbers r zero i is = absurd (let l = is.low in let h = is.high in omega (arith, l, h))
in_numbers r (suc n) i is = subst (λ s. contains s i ≡ true) (sym (numbers_runs r (suc n))) (in_run_of r 1 (suc n) i is)

pub own_of : (r : List ℕ) (i : Id) → i.replica ≡ r → is_own r i ≡ true
own_of r i e = subst (λ s. is_eq (replica_cmp s r) ≡ true) (sym e) (replica_itself r)

pub of_own : (r : List ℕ) (i : Id) → is_own r i ≡ true → i.replica ≡ r
of_own r i h = same_replica i.replica r h

-- each operation that the office made has one of its numbers
pub made_number : (f : Journal) (o : Op) → IsOffice f → contains f.made.ops o ≡ true → IsNumber f.replica 1 f.last o.id
made_number f o is h = numbers_in f.replica f.last o.id (subst (λ s. contains s o.id ≡ true) is.seen (is.content.are_seen o h))

-- a run from 1 to the last number, by its parts
pub from_first_is : (run : Run) (r : List ℕ) (last : ℕ) (b : Bool) → run.low ≡ 1 → run.high ≡ last → (b ≡ true → run.replica ≡ r) → (run.replica ≡ r → b ≡ true)
    → (b ≡ true → run ≡ from_first r last) × (run ≡ from_first r last → b ≡ true)
from_first_is run r last b low high to from = (
  (λ h. let replica = to h in λ k. record { replica = replica k; low = low k; high = high k }),
  (λ e. from (ap (λ (s : Run). s.replica) e)),
)
