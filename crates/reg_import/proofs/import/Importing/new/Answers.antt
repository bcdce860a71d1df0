use Rattle.std.proofs.Common.{refl, ap, ◌+◌, ◌∙◌}
use Rattle.reg_office.specs.Making.{greatest}
use Rattle.reg_import.proofs.TakingLemmas.{none_taken}
use Rattle.reg_import.proofs.import.Importing.new.Goals as goal

pub returns : goal.returns
returns c =
    none_taken c.args.register.now c.args.replica c.args.note.now c.args.differs _ c.requires c.in_ok-index.ensures c.new-ops.ensures.items refl
    (ap (λ n. n + 1) (c.from-first.ensures ∙ c.last_count.ensures ∙ ap (greatest c.args.replica) c.seen.ensures.value)) refl refl c.in_ok-noted.ensures
