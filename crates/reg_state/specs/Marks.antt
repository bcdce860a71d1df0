-- Marks, and the operations that set them.
use Rattle.std.specs.Prelude.{List, [], ◌∷◌, ◌++◌, Option, Some, None}
use Rattle.reg_op.specs.Set as set
use Rattle.reg_op.specs.Ids.{Id}
use Rattle.reg_op.specs.Operations.{Op}
use Rattle.reg_op.specs.declared.operation.OpBody.{OpBody as Body}
use Rattle.reg_op.specs.declared.operation.OpBody.TheVariants.{Enter, Supersede, Retire}
use Rattle.reg_state.specs.declared.mark.Mark.{Mark}
use Rattle.reg_state.specs.MarkSets.{MarkSet, least}

abbrev pub target_body : Id → Option Id → Body
target_body e None = Retire e
target_body e (Some n) = Supersede e n

-- the operation that set a mark, without its note, which is not used here
abbrev pub op_of : Mark → Op
op_of m = record { id = m.id; body = target_body m.target.entry m.target.by; note = [] }

abbrev pub mark_at : Id → Option Id → Id → Mark
mark_at e by i = record { target = record { entry = e; by = by }; id = i }

abbrev pub marks_of_body : Id → Body → List Mark
marks_of_body i (Enter text) = []
marks_of_body i (Supersede old newer) = mark_at old (Some newer) i ∷ []
marks_of_body i (Retire entry) = mark_at entry None i ∷ []

abbrev pub marks_of : List Op → List Mark
marks_of [] = []
marks_of (o ∷ os) = marks_of_body o.id o.body ++ marks_of os

-- the least of those that they set
abbrev pub least_marks : List Op → MarkSet
least_marks os = least (set.from_list (marks_of os))
