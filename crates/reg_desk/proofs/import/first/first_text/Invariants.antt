use Rattle.std.proofs.Common.{[], drop}
use Rattle.reg_desk.specs.ImportFiles.{bytes_of}
use Rattle.reg_desk.proofs.ImportTextLemmas.{CutsComplete}
use Rattle.reg_desk.proofs.import.first.first_text.Given as goal

-- the files so far have no text
abbrev pub invariant-loop-file : goal.invariant-loop-file
invariant-loop-file l = CutsComplete (bytes_of l.files) l.file (bytes_of (drop l.file l.files)) []
