use Rattle.std.proofs.Common.{ℕ, map, ap, ◌∙◌, subst}
use Rattle.std.specs.Global.{Vec}
use Rattle.reg_export.specs.KeyFiles.{keyed}
use Rattle.reg_export.specs.Twins.{Tells}
use Rattle.reg_export.proofs.FileLemmas.{by_notes}
use Rattle.reg_export.proofs.files.each_file.Goals as goal

pub returns : goal.returns
returns c =
    let ts = map keyed c.args.texts.now in
    let at = c.in_ok-notes.ensures.0 in
    let names = ap (map (λ (n : Vec ℕ). n.items)) c.deref.ensures.value ∙ c.in_ok-names.ensures in
    c.in_ok-files.ensures at c.in_ok-notes.ensures.1
    ∙ by_notes ts ts at (λ k. subst (λ l. Tells l k (at k)) names (c.in_ok-notes.ensures.2 k)) (λ t there. there)
