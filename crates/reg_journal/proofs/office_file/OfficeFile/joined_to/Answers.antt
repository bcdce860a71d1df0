use Rattle.std.proofs.Common.{◌∙◌, ap, sym, Err}
use Rattle.reg_op.specs.Contents.{joined}
use Rattle.reg_journal.proofs.JoiningLemmas.{no_clash}
use Rattle.reg_journal.proofs.office_file.OfficeFile.joined_to.Goals as goal

pub unreachable-requires : goal.unreachable-requires
unreachable-requires c =
    let clash = (c.join.ensures.clash c.in-Err-Clash.field-0-0).0 (c.in-Err-Clash.is ∙ ap Err c.in-Err-Clash.field-0-is) in
    no_clash c.args.self.now c.args.register.now c.in-Err-Clash.field-0-0 c.last-office.ensures.office c.seen-content.ensures.content c.requires
    (ap (joined c.args.register.now) (sym c.made.ensures) ∙ clash)
