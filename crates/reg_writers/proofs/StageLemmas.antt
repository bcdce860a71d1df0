-- The stage of each command, the office file and its lock of each office.
use Rattle.std.proofs.Common.{◌≡◌, ◌≢◌, ℕ, true, false, List, Option, eqb, refl, sym, ap, ◌∙◌, subst, cond, inl, inr, arith}
use Rattle.std.proofs.lemmas.Bool.{true≢false}
use Rattle.std.proofs.lemmas.Bool.Decides.{eqb_tells, nat_tests}
use Rattle.std.specs.Ordering.{is_eq}
use Rattle.reg_state.specs.Runs.{replica_cmp}
use Rattle.reg_state.proofs.RunLemmas.{same_replica, replica_itself}
use Rattle.reg_journal.specs.Journals.{Copy}
use Rattle.reg_writers.specs.OfficeDesk.{Stage, at_stage, at_lock, at_path}

pub same_number : (k : ℕ) → eqb k k ≡ true
same_number k = grind (arith, nat_tests)

pub at_each : (P : ℕ → Stage → Type 0) (stages : ℕ → Stage) (k : ℕ) (s : Stage) → P k s → ((j : ℕ) → j ≢ k → P j (stages j)) → (j : ℕ) → P j (at_stage stages k s j)
at_each P stages k s here others j =
    elim (eqb_tells j k) [
      | inl (t, e) ↦ subst (λ b. P j (cond b s (stages j))) (sym t) (subst (λ n. P n s) (sym e) here)
      | inr (f, ne) ↦ subst (λ b. P j (cond b s (stages j))) (sym f) (others j ne)
    ]

pub at_each_path : (P : ℕ → Copy → Type 0) (stands : ℕ → Copy) (p : ℕ) (c : Copy) → P p c → ((q : ℕ) → P q (stands q)) → (q : ℕ) → P q (at_path stands p c q)
at_each_path P stands p c here others q =
    elim (eqb_tells q p) [
      | inl (t, e) ↦ subst (λ b. P q (cond b c (stands q))) (sym t) (subst (λ n. P n c) (sym e) here)
      | inr (f, ne) ↦ subst (λ b. P q (cond b c (stands q))) (sym f) (others q)
    ]

-- of each office, with one that changes
pub at_each_office : {A : Type 0} (P : List ℕ → A → Type 0) (values : List ℕ → A) (i : List ℕ) (x : A)
    → P i x → ((j : List ℕ) → j ≢ i → P j (values j)) → (j : List ℕ) → P j (cond (is_eq (replica_cmp j i)) x (values j))
at_each_office P values i x here others j =
    elim (is_eq (replica_cmp j i)) as (λ b. is_eq (replica_cmp j i) ≡ b → P j (cond b x (values j))) [
      | true ↦ λ e. subst (λ r. P r x) (sym (same_replica j i e)) here
      | false ↦ λ e. others j (λ same. true≢false (sym (subst (λ r. is_eq (replica_cmp j r) ≡ true) same (replica_itself j)) ∙ e))
    ] refl

pub own_stage : (stages : ℕ → Stage) (k : ℕ) (s : Stage) → at_stage stages k s k ≡ s
own_stage stages k s = ap (λ b. cond b s (stages k)) (same_number k)

pub own_lock : (locks : List ℕ → Option ℕ) (i : List ℕ) (holder : Option ℕ) → at_lock locks i holder i ≡ holder
own_lock locks i holder = ap (λ b. cond b holder (locks i)) (replica_itself i)

pub own_path : (stands : ℕ → Copy) (p : ℕ) (c : Copy) → at_path stands p c p ≡ c
own_path stands p c = ap (λ b. cond b c (stands p)) (same_number p)
