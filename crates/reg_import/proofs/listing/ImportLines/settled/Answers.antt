use Rattle.std.proofs.Common.{List, ◌++◌, ◌∙◌, refl, map, filter, subst}
use Rattle.std.specs.String.{string_bytes}
use Rattle.reg_report.specs.Lines.{AreLines}
use Rattle.reg_import.specs.Lines.{Line, lines_of, is_shown, IsImportLine}
use Rattle.reg_import.proofs.ListedLemmas.{all_listed}
use Rattle.reg_import.proofs.listing.ImportLines.settled.Goals as goal

pub returns-clause-listed : goal.returns-clause-listed
returns-clause-listed c = λ texts ts h.
    let l = c.args.listing.now in
    let text = c.in_ok-text.text.items in
    let are = subst (λ (ls : List Line). AreLines (IsImportLine (map string_bytes l.names.now)) (filter (is_shown l.changes) ls) text) (λ j. lines_of (c.deref.ensures.value j) (c.deref-2.ensures.value j)) c.in_ok-text.ensures in
    all_listed l texts ts c.args.self _ h text are
    (c.in_ok-packed.ensures ∙ c.in_ok-rows.ensures ∙ (λ j. c.into_inner.ensures j ++ c.deref-3.ensures.value j)) c.new-texts.ensures.items c.new-told.ensures.items refl
