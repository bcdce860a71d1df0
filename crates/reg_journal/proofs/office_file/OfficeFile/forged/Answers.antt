use Rattle.std.proofs.Common.{◌∙◌, subst}
use Rattle.reg_op.specs.Ids.{Id}
use Rattle.reg_journal.specs.Standing.{Leasts}
use Rattle.reg_journal.proofs.ForgedLemmas.{forged_whole, is_above, is_told}
use Rattle.reg_journal.proofs.office_file.OfficeFile.forged.Goals as goal

pub returns : goal.returns
returns c =
    let f = c.args.self.now in
    forged_whole f c.args.register.now c.runs.result.now c.as_slice.result.now c.lesser.result (c.runs.ensures.all ∙ c.seen.ensures.value) (c.as_slice.ensures ∙ c.ops.ensures.items)
    (c.lesser.ensures (is_above f.replica f.last c.runs.result.now) (is_told f c.as_slice.result.now)
    (subst (λ (i : Id). Leasts (is_above i.replica i.count c.runs.result.now) c.first_above-seen.result) (λ k. record { replica = c.replica.ensures k; count = c.last.ensures.value k }) c.first_above-seen.ensures)
    c.first_told-told.ensures)
