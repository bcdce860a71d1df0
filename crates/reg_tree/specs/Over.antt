-- What a file that gives some operations had, as far as a register tells.
use Rattle.std.specs.Prelude.{List}
use Rattle.std.specs.List.{filter}
use Rattle.reg_op.specs.Set as set
use Rattle.reg_op.specs.Ids.{Ids}
use Rattle.reg_op.specs.Operations.{Op, Ops, kept}
use Rattle.reg_op.specs.Contents.{Content}
use Rattle.reg_op.specs.Pieces.{Piece}

-- the operations of x that have these ids
abbrev pub known_in : Content → Ids → Content
known_in x seen = record { ops = set.retain x.ops (λ o. set.contains seen o.id); seen = seen }

-- operations of a content that has seen these ids, read over x: these operations, and those of x that it has seen
abbrev pub over : Content → Ops → Ids → Content
over x ops seen = record { ops = kept (set.union ops (known_in x seen).ops); seen = seen }

-- a piece, read over x: its maker has seen its ids and its basis
abbrev pub piece_over : Content → Piece → Content
piece_over x p = over x p.ops (set.union p.seen p.basis)

-- of a list, the operations that have these ids
abbrev pub known : Ids → List Op → List Op
known seen os = filter (λ o. set.contains seen o.id) os
