use Rattle.std.proofs.Common.{◌∙◌, subst, arith}
use Rattle.reg_file.specs.Files.{Holds, IsTooLarge}
use Rattle.reg_journal.proofs.TextLemmas.{large_file, large_text}
use Rattle.reg_journal.proofs.office_file.OfficeFile.to_bytes.Goals as goal

pub returns-in-Err-clause-large : goal.returns-in-Err-clause-large
returns-in-Err-clause-large c = λ e. large_file c.args.self.now (subst IsTooLarge c.made.ensures (c.write_bytes.ensures.large.0 (c.in-Err.is ∙ e)))

pub returns-then-len-gt-MAX_FILE-clause-large : goal.returns-then-len-gt-MAX_FILE-clause-large
returns-then-len-gt-MAX_FILE-clause-large c = λ e.
    let over = c.if-len-gt-MAX_FILE.true in
    let head = c.len.ensures in
    let file = c.len-2.ensures in
    large_text c.args.self.now c.in-Ok-head.text.items c.in-Ok.file.items c.in-Ok-head.ensures (subst (Holds c.in-Ok.file.items) c.made.ensures c.in-Ok.ensures.held) (omega (arith, over, head, file))
