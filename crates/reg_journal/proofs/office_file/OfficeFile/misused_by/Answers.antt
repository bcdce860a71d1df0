use Rattle.std.proofs.Common.{◌∙◌, sym, subst, Some}
use Rattle.reg_journal.specs.Standing.{Leasts}
use Rattle.reg_journal.proofs.LeastLemmas.{only_one, not_one}
use Rattle.reg_journal.proofs.ForgedLemmas.{misuses, misuses_one, misuses_it, misuses_not}
use Rattle.reg_journal.proofs.office_file.OfficeFile.misused_by.Goals as goal

pub returns-then-is_misused : goal.returns-then-is_misused
returns-then-is_misused c =
    subst (λ i. Leasts (misuses c.args.self.now c.args.op.now) (Some i)) (sym c.id.ensures.value)
    (only_one (misuses c.args.self.now c.args.op.now) c.args.op.now.id (misuses_it c.args.self.now c.args.op.now (sym c.is_misused.ensures ∙ c.if-is_misused.true)) (misuses_one c.args.self.now c.args.op.now))

pub returns : goal.returns
returns c =
    not_one (misuses c.args.self.now c.args.op.now) c.args.op.now.id (misuses_not c.args.self.now c.args.op.now (sym c.is_misused.ensures ∙ c.if-is_misused.false)) (misuses_one c.args.self.now c.args.op.now)
