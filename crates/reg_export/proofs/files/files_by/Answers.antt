use Rattle.reg_export.proofs.FileLemmas.{files_more}
use Rattle.reg_export.proofs.files.files_by.Goals as goal

pub loop-text-preserved : goal.loop-text-preserved
loop-text-preserved c = λ at holds.
    files_more at c.args.texts.now c.loop-text.files.items c.push.new.self.items c.loop-text.text-index _ c.in_ok-file.file c.loop-text-test.true (c.loop-text.invariant at holds) (c.in_ok-file.ensures at holds)
    c.in_ok-push.ensures.items
