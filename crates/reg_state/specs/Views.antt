-- Operations with borrowed definitions and notes.
use Rattle.reg_op.specs.declared.operation.OpBody.{OpBody as Body}
use Rattle.reg_op.specs.declared.operation.OpBody.TheVariants.{Enter, Supersede, Retire}
use Rattle.reg_op.specs.Operations.{Op}
use Rattle.reg_state.specs.declared.view.OpView.{OpView}
use Rattle.reg_state.specs.declared.view.BodyView.{BodyView}
use Rattle.reg_state.specs.declared.view.BodyView.TheVariants as lent

abbrev pub body_seen : BodyView → Body
body_seen (lent.Enter definition) = Enter definition.now
body_seen (lent.Supersede old newer) = Supersede old newer
body_seen (lent.Retire entry) = Retire entry

abbrev pub op_seen : OpView → Op
op_seen v = record { id = v.id; body = body_seen v.body; note = v.note.now }
