-- The entries whose operations are listed.
use Rattle.std.specs.Prelude.{Bool, true, not, List, Option, find}
use Rattle.std.specs.List.{list_any}
use Rattle.std.specs.List.Sorted.{IsSorted, IsPermutation}
use Rattle.reg_op.specs.Ids.{Id, is_same, id_cmp}
use Rattle.reg_op.specs.Operations.{Op}
use Rattle.reg_query.specs.Log.{subject}
use Rattle.reg_query.specs.declared.log.asked.Asked.{Asked}
use Rattle.reg_query.specs.declared.log.asked.Asked.TheVariants.{All, These}
use Rattle.reg_query.specs.declared.log.asked.WantedEntries.{WantedEntries}
use Rattle.reg_query.specs.declared.log.asked.WantedEntries.TheVariants as wanted

-- the operations of the entry are listed
abbrev pub is_asked : Asked → Id → Bool
is_asked All e = true
is_asked (These entries) e = list_any (is_same e) entries.now

-- an operation is about the entry
abbrev pub is_logged : List Op → Id → Bool
is_logged os e = list_any (λ o. is_same e (subject o)) os

-- the first of these entries without an operation
abbrev pub first_unlogged : List Op → List Id → Option Id
first_unlogged os es = find (λ e. not (is_logged os e)) es

-- the same ids, in order
pub record AreInOrder (ids ordered : List Id) : Type 0 where
  pub same : IsPermutation ids ordered
  pub order : IsSorted id_cmp ordered

-- the requested entries, in order
abbrev pub AreWanted : Asked → WantedEntries → Type 0
AreWanted All wanted.All = Unit {0}
AreWanted All (wanted.These ids) = ⊥
AreWanted (These entries) wanted.All = ⊥
AreWanted (These entries) (wanted.These ids) = AreInOrder entries.now ids.items
