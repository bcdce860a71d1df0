use Rattle.std.proofs.Common.{◌∙◌, sym}
use Rattle.std.proofs.lemmas.Bool.{and_parts}
use Rattle.reg_journal.proofs.LeastLemmas.{only_one, not_one}
use Rattle.reg_journal.proofs.ForgedLemmas.{names_above, names_one, names_it, names_not}
use Rattle.reg_journal.proofs.office_file.OfficeFile.above.Goals as goal

pub returns-then-is_new : goal.returns-then-is_new
returns-then-is_new c =
    let p = and_parts _ _ (sym c.is_new.ensures ∙ c.if-is_new.true) in
    only_one (names_above c.args.self.now c.args.id) c.args.id (names_it c.args.self.now c.args.id p.0 p.1) (names_one c.args.self.now c.args.id)

pub returns : goal.returns
returns c = not_one (names_above c.args.self.now c.args.id) c.args.id (names_not c.args.self.now c.args.id (sym c.is_new.ensures ∙ c.if-is_new.false)) (names_one c.args.self.now c.args.id)
