-- Operations in a list, by id.
use Rattle.std.specs.Prelude.{◌≡◌, Bool, true, false, List, [], ◌∷◌, Option, Some, None}
use Rattle.std.specs.List.{list_any}
use Rattle.std.specs.Ordering.{eq_by_cmp}
use Rattle.reg_op.specs.Set as set
use Rattle.reg_op.specs.Ids.{Id, Ids, is_before}
use Rattle.reg_op.specs.Operations.{Op, op_cmp}
use Rattle.reg_op.specs.Contents.{Content}

abbrev pub has : List Op → Op → Bool
has os o = list_any (eq_by_cmp op_cmp o) os

-- AllAfter: each operation is after id i. ById: each operation is before all that follow it
abbrev pub AllAfter : Id → List Op → Type 0
AllAfter i [] = Unit {0}
AllAfter i (o ∷ os) = (is_before i o.id ≡ true) × AllAfter i os

abbrev pub ById : List Op → Type 0
ById [] = Unit {0}
ById (o ∷ os) = AllAfter o.id os × ById os

-- the content of operations and seen ids
abbrev pub content_at : List Op → Ids → Content
content_at ops seen = record { ops = set.from_list ops; seen = seen }

-- there is a value, and it passes
abbrev pub passes : {X : Type 0} → (X → Bool) → Option X → Bool
passes t None = false
passes t (Some x) = t x
