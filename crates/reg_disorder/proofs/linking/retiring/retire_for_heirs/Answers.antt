use Rattle.std.proofs.Common.{◌∙◌}
use Rattle.reg_disorder.proofs.ForHeirs.{retires_for, cannot_pass}
use Rattle.reg_disorder.proofs.linking.retiring.retire_for_heirs.Goals as goal

pub returns-in-Err-pass_on-clause-fault : goal.returns-in-Err-pass_on-clause-fault
returns-in-Err-pass_on-clause-fault c =
    cannot_pass c.args.register c.new-office.result.register c.retire.new.self.register c.args.replica c.new-office.result.replica c.retire.new.self.replica c.args.note.now c.args.entries.now c.in-Ok-retire.ids.items c.deref.result.now
    c.new-office.ensures.register c.new-office.ensures.replica c.in-Ok-retire.ensures.replica c.in-Ok-retire.ensures.ok (c.deref.ensures.value ∙ c.in-Ok.ensures) c.in-Err-pass_on.fault c.in-Err-pass_on.ensures.fault

pub returns-clause-done : goal.returns-clause-done
returns-clause-done c =
    retires_for c.args.register c.new-office.result.register c.retire.new.self.register c.args.replica c.new-office.result.replica c.retire.new.self.replica c.args.note.now c.args.entries.now c.in-Ok-retire.ids.items c.deref.result.now
    c.new-office.ensures.register c.new-office.ensures.replica c.in-Ok-retire.ensures.replica c.in-Ok-retire.ensures.ok (c.deref.ensures.value ∙ c.in-Ok.ensures)
    c.pass_on.new.office.register c.into_register.result c.in-Ok-pass_on.passed.links.items c.in-Ok-pass_on.passed.ids.items c.deref-2.result.now c.append.new.ids.items c.in-Ok-pass_on.ensures.passed c.deref-2.ensures.value c.in_default-append.ensures c.into_register.ensures
