use Rattle.std.proofs.Common.{◌≡◌, [], false, drop}
use Rattle.reg_op.specs.Contents.{Content}
use Rattle.reg_desk.specs.ImportFiles.{bytes_of}
use Rattle.reg_desk.specs.ImportProgress.{HasCome}
use Rattle.reg_desk.proofs.ImportTextLemmas.{FilesSoFar}
use Rattle.reg_desk.proofs.import.texts.take_texts.Given as goal

abbrev pub invariant-loop-file : goal.invariant-loop-file
invariant-loop-file l = (x : Content) → HasCome l.options x (bytes_of l.files) [] [] [] l.initial.progress → l.initial.progress.ends ≡ false → FilesSoFar l.options x (bytes_of l.files) l.file (bytes_of (drop l.file l.files)) l.progress
