use Rattle.std.proofs.Common.{sym, subst}
use Rattle.std.specs.Prelude.{IfOk}
use Rattle.reg_take.specs.declared.files.Arrival.{Arrival}
use Rattle.reg_take.specs.declared.taking.Taking.{Taking}
use Rattle.reg_take.specs.declared.taking.TakePhase.{TakePhase}
use Rattle.reg_take.specs.declared.taking.TakePhase.TheVariants as phase
use Rattle.reg_take.specs.Taken.{Shows, taken}
use Rattle.reg_take.proofs.taking.Taking.step.Goals as goal

pub returns-in-Registers-phase : goal.returns-in-Registers-phase
returns-in-Registers-phase c t shows =
    subst (λ (w : TakePhase). IfOk c.take_register.result (λ (new : Taking). Shows new (taken w t c.args.file c.args.arrival.now))) (sym c.in-Registers-phase.is)
    (subst (λ (a : Arrival). IfOk c.take_register.result (λ (new : Taking). Shows new (taken phase.Registers t c.args.file a))) (sym c.in-Register.is) (c.take_register.ensures t shows))

pub returns-in-Pieces-phase-2 : goal.returns-in-Pieces-phase-2
returns-in-Pieces-phase-2 c t shows =
    subst (λ (w : TakePhase). IfOk c.take_piece.result (λ (new : Taking). Shows new (taken w t c.args.file c.args.arrival.now))) (sym c.in-Pieces-phase-2.is)
    (subst (λ (a : Arrival). IfOk c.take_piece.result (λ (new : Taking). Shows new (taken phase.Pieces t c.args.file a))) (sym c.in-Piece.is) (c.take_piece.ensures t shows))
