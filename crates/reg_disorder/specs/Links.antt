-- Supersessions between entries that are not retired.
use Rattle.std.specs.Prelude.{Bool, not, ◌&&◌, List, [], ◌∷◌, if◌then◌else◌}
use Rattle.std.specs.List.{flat_map}
use Rattle.std.specs.declared.cmp.Ordering.{Ordering}
use Rattle.std.specs.Ordering.{ordering_then}
use Rattle.reg_op.specs.Set as set
use Rattle.reg_op.specs.Ids.{Id, id_cmp, is_same}
use Rattle.reg_op.specs.Finite.{any}
use Rattle.reg_op.specs.Operations.{Op, Ops}
use Rattle.reg_op.specs.declared.operation.OpBody.{OpBody as Body}
use Rattle.reg_op.specs.declared.operation.OpBody.TheVariants.{Enter, Supersede, Retire}
use Rattle.reg_op.specs.Status.{enters, retires, is_supersession}
use Rattle.reg_disorder.specs.declared.linking.link.Link.{Link}

-- it is an entry that is not retired
abbrev pub stands : Ops → Id → Bool
stands s i = enters s i && not (retires s i)

-- some operation supersedes the one by the other
abbrev pub supersedes_by : Ops → Id → Id → Bool
supersedes_by s old newer = any (λ o. is_supersession old (is_same newer) o.body) s

-- the one supersedes the other, and neither is retired
abbrev pub is_linked : Ops → Id → Id → Bool
is_linked s old newer = stands s old && (stands s newer && supersedes_by s old newer)

-- the link of an operation, if neither entry is retired
abbrev pub link_in : Ops → Body → List Link
link_in s (Enter text) = []
link_in s (Supersede old newer) = if stands s old && stands s newer then record { old = old; newer = newer } ∷ [] else []
link_in s (Retire entry) = []

-- all links, by their operations
abbrev pub links_in : Ops → List Link
links_in s = flat_map (λ (o : Op). link_in s o.body) (set.items s)

-- links are ordered by the old entry, and then by the newer one
abbrev pub link_cmp : Link → Link → Ordering
link_cmp a b = ordering_then (id_cmp a.old b.old) (id_cmp a.newer b.newer)
