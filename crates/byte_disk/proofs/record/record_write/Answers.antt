use Rattle.std.proofs.Common.{◌≡◌, true, rules}
use Rattle.byte_disk.specs.Record.{overlaid}
use Rattle.byte_disk.proofs.RecordLemmas.{grows_noted, whole_noted}
use Rattle.byte_disk.proofs.record.record_write.Goals as goal

pub returns-in_ok-note-in-Works-clause-grows : goal.returns-in_ok-note-in-Works-clause-grows
returns-in_ok-note-in-Works-clause-grows c = grows_noted _ _ _ _ _ c.in_ok-note-in-Works.ensures.ok

pub returns-in_ok-note-in-Works-clause-whole : goal.returns-in_ok-note-in-Works-clause-whole
returns-in_ok-note-in-Works-clause-whole c = λ whole.
    let next : c.in_ok-next-in-Works.next.items ≡ overlaid c.args.content.now.items c.args.at c.args.bytes.now = search rules in
    whole_noted c.args.content.now.items c.in_ok-next-in-Works.next.items c.args.at c.args.bytes.now true c.args.span.now c.note.new.span c.in_ok-note-in-Works.ensures.ok next whole
