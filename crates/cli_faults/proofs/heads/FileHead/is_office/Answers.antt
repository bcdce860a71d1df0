use Rattle.std.proofs.Common.{sym, subst, codes}
use Rattle.std.proofs.lemmas.Bool.{false_from_ne_true}
use Rattle.reg_journal.specs.Text.{BeginsOffice}
use Rattle.reg_journal.proofs.TextLemmas.{office_begins, register_is_none}
use Rattle.cli_faults.proofs.heads.FileHead.is_office.Goals as goal

pub returns-clause-office : goal.returns-clause-office
returns-clause-office c = λ text rest f holds is.
    c.begins_office.ensures.1 (subst (BeginsOffice (codes "CRSR")) (sym is) (office_begins text rest f holds))

pub returns-clause-register : goal.returns-clause-register
returns-clause-register c = λ is. false_from_ne_true _ (λ h. register_is_none (codes "CRSR") c.args.self.now.start is (c.begins_office.ensures.0 h))
