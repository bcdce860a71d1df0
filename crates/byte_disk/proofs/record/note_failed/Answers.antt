use Rattle.std.proofs.Common.{⊎_elim, false, refl}
use Rattle.byte_disk.proofs.RecordLemmas.{either_way, grows_noted, grows_same, whole_noted, whole_same}
use Rattle.byte_disk.proofs.record.note_failed.Goals as goal

pub returns-clause-grows : goal.returns-clause-grows
returns-clause-grows c = ⊎_elim (grows_noted _ _ _ _ _) (grows_same _ _ _ _) (either_way c.note.result c.note.ensures.ok c.note.ensures.err)

pub returns-clause-whole : goal.returns-clause-whole
returns-clause-whole c = λ content whole. ⊎_elim (λ noted. whole_noted content content _ _ false _ _ noted refl whole) (λ same. whole_same content _ _ same whole) (either_way c.note.result c.note.ensures.ok c.note.ensures.err)
