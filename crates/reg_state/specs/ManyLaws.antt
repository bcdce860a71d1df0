-- Lists of contents, and the content of the unions of their operations and of their ids.
use Rattle.std.specs.Prelude.{List, [], ◌∷◌}
use Rattle.reg_op.specs.Set as set
use Rattle.reg_op.specs.Ids.{Ids}
use Rattle.reg_op.specs.Operations.{Ops, kept}
use Rattle.reg_op.specs.Contents.{Content}

-- the operations of all contents, the ids of all contents, and the members of all sets
abbrev pub all_ops : List Content → Ops
all_ops [] = set.empty
all_ops (x ∷ xs) = set.union x.ops (all_ops xs)

abbrev pub all_seen : List Content → Ids
all_seen [] = set.empty
all_seen (x ∷ xs) = set.union x.seen (all_seen xs)

abbrev pub all_of : List Ops → Ops
all_of [] = set.empty
all_of (s ∷ ss) = set.union s (all_of ss)

-- the kept operations of all contents, and the seen ids of all
abbrev pub merged_all : List Content → Content
merged_all xs = record { ops = kept (all_ops xs); seen = all_seen xs }
