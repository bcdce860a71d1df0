use Rattle.std.proofs.Common.{sym, ◌∙◌}
use Rattle.std.proofs.lemmas.Bool.{eqb-true}
use Rattle.reg_office.proofs.NumberLemmas.{none_done}
use Rattle.reg_office.proofs.office.Office.make.Goals as goal

pub returns-then-is_empty-clause-ok : goal.returns-then-is_empty-clause-ok
returns-then-is_empty-clause-ok c = none_done c.args.self.now.register c.args.self.now.replica c.args.note.now c.args.bodies.now c.new.result.items (sym c.note_fault.ensures ∙ c.in_default.is) c.seen-seen.ensures.content (eqb-true _ _ (sym c.if-is_empty.ensures)) c.new.ensures.items
