use Rattle.std.proofs.Common.{◌||◌, ◌&&◌, sym, ap, ◌∙◌, Some}
use Rattle.reg_op.specs.Set as set
use Rattle.reg_op.specs.Ids.{is_before}
use Rattle.reg_op.specs.Operations.{replaces}
use Rattle.std.specs.List.{list_any}
use Rattle.reg_state.specs.MarkSets.{is_at}
use Rattle.reg_state.specs.Marks.{op_of}
use Rattle.reg_state.proofs.MarkLemmas.{replaced_enter, replaced_supersede}
use Rattle.reg_state.proofs.marks.is_replaced.Goals as goal

pub returns-in-Enter : goal.returns-in-Enter
returns-in-Enter c =
    replaced_enter (set.items c.args.marks.now) c.args.op.now.id c.in-Enter.field-0 c.args.op.now.note
    ∙ (λ k. list_any (λ m. replaces (op_of m) (record { id = c.args.op.now.id; body = (sym c.in-Enter.is ∙ c.body.ensures) k; note = c.args.op.now.note })) (set.items c.args.marks.now))

pub returns-then-is_marked : goal.returns-then-is_marked
returns-then-is_marked c =
    let ms = set.items c.args.marks.now in
    c.if-is_marked.true
    ∙ ap (λ a. a || list_any (λ m. is_at (record { entry = c.in-Supersede.old; by = Some c.in-Supersede.newer }) m && is_before m.id c.args.op.now.id) ms) (sym (sym c.is_marked.ensures ∙ c.if-is_marked.true))
    ∙ replaced_supersede ms c.args.op.now.id c.in-Supersede.old c.in-Supersede.newer c.args.op.now.note
    ∙ (λ k. list_any (λ m. replaces (op_of m) (record { id = c.args.op.now.id; body = (sym c.in-Supersede.is ∙ c.body.ensures) k; note = c.args.op.now.note })) ms)

pub returns-else-is_marked : goal.returns-else-is_marked
returns-else-is_marked c =
    let ms = set.items c.args.marks.now in
    c.is_marked_before-else-is_marked.ensures
    ∙ ap (λ j. list_any (λ m. is_at (record { entry = c.in-Supersede.old; by = Some c.in-Supersede.newer }) m && is_before m.id j) ms) c.id-id.ensures.value
    ∙ ap (λ a. a || list_any (λ m. is_at (record { entry = c.in-Supersede.old; by = Some c.in-Supersede.newer }) m && is_before m.id c.args.op.now.id) ms) (sym (sym c.is_marked.ensures ∙ c.if-is_marked.false))
    ∙ replaced_supersede ms c.args.op.now.id c.in-Supersede.old c.in-Supersede.newer c.args.op.now.note
    ∙ (λ k. list_any (λ m. replaces (op_of m) (record { id = c.args.op.now.id; body = (sym c.in-Supersede.is ∙ c.body.ensures) k; note = c.args.op.now.note })) ms)
