use Rattle.std.proofs.Common.{◌++◌, [], ◌∷◌, cond, sym, subst, ◌∙◌}
use Rattle.reg_import.specs.declared.listing.Listing.{Listing}
use Rattle.reg_import.specs.Readings.{readings}
use Rattle.reg_import.specs.Listed.{HasListed}
use Rattle.reg_desk.specs.ImportTexts.{text_at}
use Rattle.reg_desk.specs.ImportNotes.{note_in}
use Rattle.reg_desk.proofs.ProgressLemmas.{one_come}
use Rattle.reg_desk.proofs.import.progress.taken.Goals as goal

pub returns-clause-come : goal.returns-clause-come
returns-clause-come c = λ x files cuts texts ts h named explains.
    let o = c.args.options.now in
    let cut = text_at c.args.cut.now in
    let t = c.in_ok-next.next.told in
    let same = c.listing_of.ensures in
    let before = subst (λ (l : Listing). HasListed l texts ts c.args.progress.lines) (sym same) h.listed in
    let listed = subst (λ (l : Listing). HasListed l (texts ++ c.args.text ∷ []) (ts ++ t ∷ []) c.in_ok-lines.lines) same (c.in_ok-lines.ensures texts ts before) in (
      t,
      one_come o x files cuts texts ts c.args.progress _ h cut c.args.text t (c.in_ok-next.ensures x o.replica o.note.now o.differs (readings texts) ts h.taken) listed
          (c.in_ok-push_note.ensures.note ∙ (λ j. c.args.progress.notes.items ++ cond (c.explains-is_explained.ensures j) (note_in (named j) (explains j) cut t) []))
          c.first_of-refused.ensures,
    )
