-- The operations of many registers, as a list.
use Rattle.std.specs.Prelude.{◌≡◌, List, Contains, map}
use Rattle.std.specs.Borrow.{Bor}
use Rattle.std.specs.List.{flat_map}
use Rattle.std.specs.List.Sorted.{IsSortedByKey}
use Rattle.reg_op.specs.Set as set
use Rattle.reg_op.specs.Ids.{id_cmp}
use Rattle.reg_op.specs.Operations.{Op}
use Rattle.reg_op.specs.Contents.{Content}

-- the operations that references lead to
abbrev pub ops_at : List (Bor Op) → List Op
ops_at os = map (λ (o : Bor Op). o.now) os

-- they ascend by id
abbrev pub IsById : List (Bor Op) → Type 0
IsById os = IsSortedByKey (λ (o : Bor Op). o.now.id) id_cmp os

-- those of all contents, one content after another
abbrev pub ops_in : List Content → List Op
ops_in xs = flat_map (λ (x : Content). set.items x.ops) xs

-- no id has two of them
abbrev pub OneEach : List Op → Type 0
OneEach os = (p o : Op) → Contains os p → Contains os o → p.id ≡ o.id → p ≡ o
