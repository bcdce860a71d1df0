use Rattle.std.proofs.Common.{inl, inr, arith}
use Rattle.reg_desk.proofs.import.first.fault_in.Goals as goal

pub returns-in_default-clause-none : goal.returns-in_default-clause-none
returns-in_default-clause-none c = inl c.in_default.ensures.none

pub returns-in_default-told_at-clause-none : goal.returns-in_default-told_at-clause-none
returns-in_default-told_at-clause-none c =
    inr (inr (c.in-Some.fault, c.in-Some.ensures.some, c.in_default-told_at.ensures.none))

pub returns-in_default-checked_add-clause-none : goal.returns-in_default-checked_add-clause-none
returns-in_default-checked_add-clause-none c = inr (inl (omega (arith, c.in_default-checked_add.ensures)))

pub returns-clause-some : goal.returns-clause-some
returns-clause-some c =
    (c.in-Some.fault, c.in-Some.ensures.some, cc (c.in-Some-told_at.ensures.some, c.in-Some-checked_add.ensures.1))
