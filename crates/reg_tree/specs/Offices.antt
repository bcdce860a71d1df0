-- What a content has of some offices.
use Rattle.std.specs.Prelude.{ℕ, Bool, List}
use Rattle.std.specs.List.{list_any, filter}
use Rattle.std.specs.Ordering.{is_eq}
use Rattle.reg_op.specs.Set as set
use Rattle.reg_op.specs.Ids.{Id}
use Rattle.reg_op.specs.Operations.{Op, Ops}
use Rattle.reg_op.specs.Contents.{Content, state}
use Rattle.reg_state.specs.Runs.{replica_cmp}

-- the id is the office's; it is one of these offices'. An office is the bytes of its UUID
abbrev pub is_of : Id → List ℕ → Bool
is_of i office = is_eq (replica_cmp i.replica office)

abbrev pub is_theirs : List (List ℕ) → Id → Bool
is_theirs offices i = list_any (is_of i) offices

-- the operations that these offices made, of a list and of a set
abbrev pub listed : List (List ℕ) → List Op → List Op
listed offices os = filter (λ o. is_theirs offices o.id) os

abbrev pub theirs : List (List ℕ) → Ops → Ops
theirs offices s = set.retain s (λ o. is_theirs offices o.id)

-- the content of the set of the operations that a content has of these offices
abbrev pub from_offices : List (List ℕ) → Content → Content
from_offices offices x = state (theirs offices x.ops)
