use Rattle.std.proofs.Common.{◌≡◌, ◌++◌, drop}
use Rattle.reg_engine.specs.Outputs.{id_lines}
use Rattle.reg_engine.proofs.outputs.id_lines.Given as goal

-- the lines so far, followed by those of the remaining ids, are all lines
abbrev pub invariant-loop-id : goal.invariant-loop-id
invariant-loop-id l = l.lines.items ++ id_lines (drop l.id-index l.fn.ids) ≡ id_lines l.fn.ids
