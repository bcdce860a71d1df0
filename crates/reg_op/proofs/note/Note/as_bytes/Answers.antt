use Rattle.std.proofs.Common.{sym, ap, ◌∙◌, subst}
use Rattle.std.proofs.lemmas.Str.{IsUtf8-from_is_utf8}
use Rattle.reg_op.specs.Notes.{IsNote, bytes_in}
use Rattle.reg_op.proofs.note.Note.as_bytes.Goals as goal

pub returns-in-Some-clause-note : goal.returns-in-Some-clause-note
returns-in-Some-clause-note c =
    let w = c.in-Some.written.value in
    subst IsNote (ap (bytes_in (λ r. r.value.bytes.items)) (sym c.in-Some.is) ∙ c.self.view_is)
    (record { utf8 = IsUtf8-from_is_utf8 w.bytes.items w.utf8; short = w.short })
