use Rattle.std.proofs.Common.{◌≡◌, refl, inl, inr, arith, rules}
use Rattle.reg_office.specs.declared.fault.OfficeFault.TheVariants as office
use Rattle.reg_engine.specs.declared.fault.Refusal.TheVariants as refusal
use Rattle.reg_engine.specs.declared.fault.CliFault.TheVariants as cli
use Rattle.reg_desk.proofs.ImportEngineLemmas.{plain_is}
use Rattle.reg_desk.proofs.import.first.run_out.Goals as goal

pub returns-then-options-gt-MAX : goal.returns-then-options-gt-MAX
returns-then-options-gt-MAX c = λ x is. inr (inl (
  plain_is (λ f. f ≡ cli.Refused (refusal.Office office.NoteTooLong)) c.plain.result (cli.Refused (refusal.Office office.NoteTooLong)) c.plain.ensures.fault c.plain.ensures.notes refl,
  omega arith,
))

pub returns-in-Some : goal.returns-in-Some
returns-in-Some c = λ x is. inr (inr (is, omega arith, c.in-Some.ensures.some, search rules))

pub returns-in-None : goal.returns-in-None
returns-in-None c = λ x is. inl (plain_is (λ f. f ≡ cli.Memory) c.plain-in-None.result cli.Memory c.plain-in-None.ensures.fault c.plain-in-None.ensures.notes refl, omega arith, c.in-None.ensures.none)
