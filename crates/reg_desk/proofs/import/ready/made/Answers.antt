use Rattle.std.proofs.Common.{◌≡◌, refl, inl, inr, arith}
use Rattle.reg_office.specs.declared.fault.OfficeFault.TheVariants as office
use Rattle.reg_engine.specs.declared.fault.Refusal.TheVariants as refusal
use Rattle.reg_engine.specs.declared.fault.CliFault.TheVariants as cli
use Rattle.reg_desk.specs.ImportFiles.{bytes_of}
use Rattle.reg_desk.proofs.ImportEngineLemmas.{plain_is}
use Rattle.reg_desk.proofs.GivenLemmas.{given_made, given_unmade}
use Rattle.reg_desk.proofs.import.ready.made.Goals as goal

pub returns-then-options-gt-MAX-clause-fault : goal.returns-then-options-gt-MAX-clause-fault
returns-then-options-gt-MAX-clause-fault c = inl (inr (inl (
  plain_is (λ f. f ≡ cli.Refused (refusal.Office office.NoteTooLong)) c.plain.result (cli.Refused (refusal.Office office.NoteTooLong)) c.plain.ensures.fault c.plain.ensures.notes refl,
  omega arith,
)))

pub ended-requires : goal.ended-requires
ended-requires c = let a = c.in-Ok.ensures in (bytes_of c.args.files.now, a.0, a.1, a.2, a.4)

pub returns-in_default-clause-fault : goal.returns-in_default-clause-fault
returns-in_default-clause-fault c = inl (c.run_out.ensures c.args.register c.seen-content.ensures.content)

pub returns-in-Ok-ended-clause-made : goal.returns-in-Ok-ended-clause-made
returns-in-Ok-ended-clause-made c =
    let a = c.in-Ok.ensures in
    let files = bytes_of c.args.files.now in
    let r = c.in-Ok-ended.ready in
    given_made c.args.options.now c.args.first c.args.register r.register files a.0 a.1 r.lines r.passed a.3 (c.in-Ok-ended.ensures.made files a.0 a.1 a.2 a.4)

pub returns-in-Err-clause-fault : goal.returns-in-Err-clause-fault
returns-in-Err-clause-fault c =
    let a = c.in-Ok.ensures in
    let files = bytes_of c.args.files.now in
    given_unmade c.args.options.now c.args.first c.args.register files a.0 a.1 c.in-Err.why a.3 (c.in-Err.ensures.fault files a.0 a.1 a.2 a.4)
