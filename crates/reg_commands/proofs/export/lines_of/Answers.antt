use Rattle.std.proofs.Common.{◌∙◌, ap, arith}
use Rattle.std.proofs.lemmas.List.{take_all}
use Rattle.std.specs.List.{flat_map}
use Rattle.reg_op.specs.Set as set
use Rattle.reg_commands.specs.Export.{op_line}
use Rattle.reg_commands.proofs.ExportLemmas.{lines_are}
use Rattle.reg_commands.proofs.export.lines_of.Goals as goal

pub returns : goal.returns
returns c =
    let ops = c.args.register.now.ops in
    c.loop-op.invariant
    ∙ ap (flat_map (op_line ops)) (take_all c.loop-op.op-index c.as_slice-ops.result.now (omega (arith, c.loop-op-test.false)))
    ∙ ap (flat_map (op_line ops)) (c.as_slice-ops.ensures ∙ c.ops.ensures.items)
    ∙ lines_are ops (set.items ops)
