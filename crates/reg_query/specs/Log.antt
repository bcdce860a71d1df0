-- The operations that a register keeps, entry by entry.
use Rattle.std.specs.Prelude.{ℕ, Bool, List, filter}
use Rattle.std.specs.List.Sorted.{IsSorted, IsPermutation}
use Rattle.std.specs.Ordering.{nat_cmp, ordering_then}
use Rattle.std.specs.declared.cmp.Ordering.{Ordering}
use Rattle.reg_op.specs.Set as set
use Rattle.reg_op.specs.Ids.{Id, id_cmp}
use Rattle.reg_op.specs.Operations.{Op, Ops}
use Rattle.reg_op.specs.declared.operation.OpBody.{OpBody as Body}
use Rattle.reg_op.specs.declared.operation.OpBody.TheVariants.{Enter, Supersede, Retire}

-- the entry that an operation is about
abbrev pub subject_of : Id → Body → Id
subject_of i (Enter text) = i
subject_of i (Supersede old newer) = old
subject_of i (Retire entry) = entry

abbrev pub subject : Op → Id
subject o = subject_of o.id o.body

-- an entry is entered, then superseded, then retired
abbrev pub rank : Body → ℕ
rank (Enter text) = 0
rank (Supersede old newer) = 1
rank (Retire entry) = 2

-- operations are ordered by their entry, then so, and then by their id
abbrev pub log_cmp : Op → Op → Ordering
log_cmp a b = ordering_then (id_cmp (subject a) (subject b)) (ordering_then (nat_cmp (rank a.body) (rank b.body)) (id_cmp a.id b.id))

-- the operations on the requested entries, each as often as the set has it, in order
pub record AreLogged (asked : Id → Bool) (s : Ops) (os : List Op) : Type 0 where
  pub all : IsPermutation (filter (λ o. asked (subject o)) (set.items s)) os
  pub sorted : IsSorted log_cmp os
