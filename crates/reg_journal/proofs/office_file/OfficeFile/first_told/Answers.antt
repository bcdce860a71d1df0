use Rattle.std.proofs.Common.{◌||◌, ◌&&◌, false, refl}
use Rattle.reg_op.specs.Ids.{Id}
use Rattle.reg_journal.specs.Journal.{is_own}
use Rattle.reg_journal.specs.Standing.{tells_forged}
use Rattle.reg_journal.proofs.ForgedLemmas.{told_more}
use Rattle.reg_journal.proofs.office_file.OfficeFile.first_told.Goals as goal

pub loop-op-init : goal.loop-op-init
loop-op-init c = ((λ (i : Id). false), (λ i. refl), (λ i. refl))

pub loop-op-preserved : goal.loop-op-preserved
loop-op-preserved c =
    let inv = c.loop-op.invariant in (
      (λ i. inv.0 i || (is_own c.args.self.now.replica i && tells_forged c.args.self.now i c.in-Some.op.now)),
      c.lesser-least.ensures inv.0 (λ i. is_own c.args.self.now.replica i && tells_forged c.args.self.now i c.in-Some.op.now) inv.1 c.told_by-told.ensures,
      told_more c.args.self.now c.args.ops.now c.loop-op.rest.now c.in-Some.others.now c.in-Some.op.now inv.0 c.in-Some.ensures.cases.0 inv.2,
    )
