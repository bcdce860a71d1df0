use Rattle.std.proofs.Common.{ap, subst, arith, inl, Ok}
use Rattle.reg_file.specs.Readers.{StopsIn}
use Rattle.reg_file.specs.Reading.{version_in, register}
use Rattle.reg_file.proofs.FieldLemmas.{IsBytes}
use Rattle.reg_file.proofs.HoldLemmas.{read_holds, read_is_held, held_or_fault}
use Rattle.reg_file.proofs.reading.read_within.Goals as goal

pub returns-in-Ok-clause-found : goal.returns-in-Ok-clause-found
returns-in-Ok-clause-found c =
    let fits : IsBytes c.args.bytes.now = λ i. omega (arith, c.type_inv.bytes i) in
    read_holds c.args.bytes.now c.in-Ok.register fits (omega (arith, c.if-bytes-gt-MAX_FILE.false)) c.in-Ok.ensures.ok

pub returns-in-Ok-clause-only : goal.returns-in-Ok-clause-only
returns-in-Ok-clause-only c = λ x h. inl (ap Ok (read_is_held c.args.bytes.now c.in-Ok.register x c.in-Ok.ensures.ok h))

pub returns-in-Err-Refused-clause-only : goal.returns-in-Err-Refused-clause-only
returns-in-Err-Refused-clause-only c = λ x h. absurd (held_or_fault c.args.bytes.now x c.in-Err-Refused.first h (subst (StopsIn (register (version_in c.args.bytes.now)) c.args.bytes.now) c.in-Err-Refused.field-0-is c.in-Err-Refused.ensures.err))
