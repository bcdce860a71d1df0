use Rattle.std.proofs.Common.{◌≡◌, ◌+◌, ℕ, List, false, length}
use Rattle.reg_op.specs.Contents.{Content}
use Rattle.reg_import.specs.declared.reading.FileText.{FileText}
use Rattle.reg_import.specs.declared.action.TextAction.{TextAction}
use Rattle.reg_desk.specs.ImportTexts.{TextAt}
use Rattle.reg_desk.specs.ImportNotes.{content_of}
use Rattle.reg_desk.specs.ImportProgress.{HasCome}
use Rattle.reg_desk.proofs.ImportTextLemmas.{SoFar}
use Rattle.reg_desk.proofs.import.texts.take_file.Given as goal

abbrev pub invariant-loop-cut : goal.invariant-loop-cut
invariant-loop-cut l = record {
  left : l.place + length l.rest ≡ length l.bytes;
  explains : l.explainer ≡ l.bytes;
  was : (x : Content) (files : List (List ℕ)) (cuts : List TextAt) (texts : List FileText) (ts : List TextAction) → HasCome l.options x files cuts texts ts l.initial.progress → l.bytes ≡ content_of files l.file
      → l.initial.progress.ends ≡ false → SoFar l.options x files l.file l.bytes cuts texts ts l.place l.rest l.progress;
}

abbrev pub decreases-loop-cut : goal.decreases-loop-cut
decreases-loop-cut l = length l.rest
