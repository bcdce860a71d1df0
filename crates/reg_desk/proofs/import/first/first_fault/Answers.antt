use Rattle.std.proofs.Common.{inl, inr}
use Rattle.reg_desk.specs.ImportTexts.{text_at}
use Rattle.reg_desk.proofs.import.first.first_fault.Goals as goal

pub returns-then-options-clause-none : goal.returns-then-options-clause-none
returns-then-options-clause-none c = inl c.if-options.true

pub returns-then-options-2-clause-none : goal.returns-then-options-2-clause-none
returns-then-options-2-clause-none c = inr (inl c.if-options-2.true)

pub returns-in_default-clause-none : goal.returns-in_default-clause-none
returns-in_default-clause-none c = inr (inr (inl c.in_default.ensures.none))

pub returns-in-None-clause-none : goal.returns-in-None-clause-none
returns-in-None-clause-none c = let later = c.in-Some.ensures.some in inr (inr (inr (text_at c.in-Some.cut, later.0, later.1, c.in-None.ensures.none)))

pub returns-in-Some-fault_in-clause-some : goal.returns-in-Some-fault_in-clause-some
returns-in-Some-fault_in-clause-some c = let later = c.in-Some.ensures.some in record {
  ends = c.if-options.false;
  unexplained = c.if-options-2.false;
  text = text_at c.in-Some.cut;
  later = later.0;
  cut = later.1;
  told = c.in-Some-fault_in.ensures.some;
}
