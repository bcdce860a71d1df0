-- The operations of one replica in a list that is sorted by id.
use Rattle.std.proofs.Common.{◌≡◌, ℕ, ◌+◌, ◌≤◌, Bool, true, false, cond, List, [], ◌∷◌, length, take, drop, refl, sym, ap, ◌∙◌, arith, suc}
use Rattle.std.proofs.lemmas.Bool.{true≢false}
use Rattle.std.proofs.lemmas.List.Sums.{sum_by-cons}
use Rattle.std.specs.List.{count_by, prefix_len}
use Rattle.std.specs.List.Sorted.{IsPartitionedBy, IsPartitionPoint}
use Rattle.std.specs.declared.cmp.Ordering.TheVariants.{Less, Equal, Greater}
use Rattle.std.specs.Ordering.{nat_cmp, is_lt, is_gt, ordering_then}
use Rattle.reg_op.specs.Ids.{Id, is_before}
use Rattle.reg_op.specs.Operations.{Op}
use Rattle.reg_op.specs.Lists.{ById}
use Rattle.reg_state.specs.Runs.{replica_cmp}
use Rattle.reg_query.specs.Offices.{is_op_of, is_below}
use Rattle.reg_query.proofs.PartLemmas.{Rises, total, parted, part}

abbrev replica_of : Op → List ℕ
replica_of o = o.id.replica

before_rises : (a b : Id) → is_before a b ≡ true → is_gt (replica_cmp a.replica b.replica) ≡ false
before_rises a b h =
    elim (replica_cmp a.replica b.replica) as (λ o. is_lt (ordering_then o (nat_cmp a.count b.count)) ≡ true → is_gt o ≡ false) [
      | Less ↦ λ _. refl
      | Equal ↦ λ _. refl
      | Greater ↦ λ h. absurd (true≢false (sym h))
    ] h

ops_rise : (os : List Op) → ById os → Rises replica_of os
ops_rise [] h = tt
ops_rise (o ∷ []) h = tt
ops_rise (o ∷ p ∷ os) h = (before_rises o.id p.id h.0.0, ops_rise (p ∷ os) h.1)

pub ops_parted : (q : List ℕ) (os : List Op) → ById os → IsPartitionedBy (λ (o : Op). is_below o.id.replica q) os
ops_parted q os h = parted replica_of q os (ops_rise os h)

count_is : (q : List ℕ) (os : List Op) → count_by (is_op_of q) os ≡ total (λ (o : Op). cond (is_op_of q o) 1 0) os
count_is q [] = refl
count_is q (o ∷ os) = sum_by-cons (λ (p : Op). cond (is_op_of q p) 1 0) o os ∙ ap (λ n. cond (is_op_of q o) 1 0 + n) (count_is q os)

front_counts : (p : Op → Bool) (os : List Op) → total (λ (o : Op). 1) (take (prefix_len p os) os) ≡ prefix_len p os
front_counts p [] = refl
front_counts p (o ∷ os) =
    elim (p o) as (λ b. total (λ (o : Op). 1) (take (cond b (1 + prefix_len p os) 0) (o ∷ os)) ≡ cond b (1 + prefix_len p os) 0) [
      | true ↦ let one : 1 + prefix_len p os ≡ suc (prefix_len p os) = omega arith in
          ap (λ n. total (λ (o : Op). 1) (take n (o ∷ os))) one ∙ ap (λ n. 1 + n) (front_counts p os)
      | false ↦ refl
    ]

-- from the partition point on, the longest prefix of operations of q has as many as there are of q in all
pub part_of_ops : (q : List ℕ) (os : List Op) (a : ℕ) → ById os → a ≤ length os
    → IsPartitionPoint (λ (o : Op). is_below o.id.replica q ≡ true) (λ (o : Op). is_below o.id.replica q ≡ false) os a
    → (rest : List Op) (n : ℕ) → rest ≡ drop a os → n ≡ prefix_len (is_op_of q) rest → n ≡ count_by (is_op_of q) os
part_of_ops q os a h l point rest n e m =
    m ∙ ap (prefix_len (is_op_of q)) e ∙ sym (front_counts (is_op_of q) (drop a os))
    ∙ part replica_of q (λ (o : Op). 1) os a (ops_rise os h) l point ∙ sym (count_is q os)
