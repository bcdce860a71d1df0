use Rattle.std.proofs.Common.{◌<◌, Ok, length, sym, ap, subst, ◌∙◌, arith}
use Rattle.reg_op.specs.Notes.{IsNoteFault}
use Rattle.reg_file.specs.Fields.{Fails, note_at}
use Rattle.reg_file.proofs.FieldLemmas.{IsBytes}
use Rattle.reg_file.proofs.NoteLemmas.{noted_takes, note_read, note_refused}
use Rattle.reg_file.proofs.fields.note_of.Goals as goal

pub returns-in-Ok-new : goal.returns-in-Ok-new
returns-in-Ok-new c =
    note_read c.args.version c.args.bytes.now c.in-Ok.read.0.now c.in-Ok.read.1.now c.if-version-eq-FIRST_VERSION.false c.in-Ok.ensures c.in-Ok-new.ensures.ok.1.utf8
    ∙ ap (λ n. Ok (n, c.in-Ok.read.1.now)) (sym c.in-Ok-new.ensures.ok.0)

pub returns-in-Err-NoteNotUtf8 : goal.returns-in-Err-NoteNotUtf8
returns-in-Err-NoteNotUtf8 c =
    let f = subst (IsNoteFault c.in-Ok.read.0.now) c.in-Err-NoteNotUtf8.field-0-is c.in-Err-NoteNotUtf8.ensures.fault in
    subst (λ s. Fails s (note_at c.args.version c.args.bytes.now)) (sym c.refused.ensures)
    (note_refused c.args.version c.args.bytes.now c.in-Ok.read.0.now c.in-Ok.read.1.now c.if-version-eq-FIRST_VERSION.false c.in-Ok.ensures f.1)

pub unreachable-requires : goal.unreachable-requires
unreachable-requires c =
    let fits : IsBytes c.args.bytes.now = λ i. omega (arith, c.type_inv.bytes i) in
    let long : 200 < length c.in-Ok.read.0.now = subst (IsNoteFault c.in-Ok.read.0.now) c.in-Err-NoteTooLong.field-0-is c.in-Err-NoteTooLong.ensures.fault in
    let t = noted_takes c.args.bytes.now c.in-Ok.read.0.now c.in-Ok.read.1.now fits c.in-Ok.ensures in
    omega (arith, t.short, long)
