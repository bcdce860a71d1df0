use Rattle.reg_desk.proofs.import.first.unread.Goals as goal

pub returns-in-Ok-clause-none : goal.returns-in-Ok-clause-none
returns-in-Ok-clause-none c = (λ f h. cc (c.in-Ok.ensures.text f h), λ f h. cc (c.in-Ok.ensures.slot f h))

pub returns-in-Err-Memory-clause-none : goal.returns-in-Err-Memory-clause-none
returns-in-Err-Memory-clause-none c = (
  λ f h. cc (c.in-Err-Memory.ensures.text f h, c.in-Err-Memory.field-0-is),
  λ f h. cc (c.in-Err-Memory.ensures.slot f h, c.in-Err-Memory.field-0-is),
)
