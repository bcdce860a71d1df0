use Rattle.std.proofs.Common.{◌≡◌, true, subst, rules}
use Rattle.std.proofs.lemmas.Result.{on_ok_weaker}
use Rattle.byte_disk.specs.Disk.{Only}
use Rattle.byte_shelf.specs.Shelf as slots
use Rattle.reg_file.specs.Contents.{Content, nothing}
use Rattle.reg_file.specs.Files.{Holds, IsTooLarge}
use Rattle.reg_shelf.proofs.Contents.{empty_fits, fresh_fits}
use Rattle.reg_shelf.proofs.Outcomes.{file_fault}
use Rattle.reg_shelf.proofs.Kept.{sized_of}
use Rattle.reg_shelf.proofs.formatting.format.Goals as goal

pub returns-clause-done : goal.returns-clause-done
returns-clause-done g c = λ told.
    let sure : Type 0 = Only (g.D.Disk.seen c.format.new.disk) (g.D.Disk.images c.format.new.disk) in
    let holds : Holds c.in-Ok.file.items nothing = subst (λ (x : Content). Holds c.in-Ok.file.items x) c.new.ensures c.in-Ok.ensures.held in
    on_ok_weaker c.format.result
    (λ (done : sure × slots.IsShelfOf (g.D.Disk.seen c.format.new.disk) c.args.size c.deref.result.now). (done.0, sized_of (g.D.Disk.seen c.format.new.disk) c.deref.result.now c.in-Ok.file.items c.args.size nothing done.1 c.deref.ensures.value holds))
    (c.format.ensures.done told)

pub returns-in-Err-clause-faults : goal.returns-in-Err-clause-faults
returns-in-Err-clause-faults g c = file_fault c.in-Err.fault c.in-Err.ensures.faults (λ large. empty_fits (subst (λ (x : Content). IsTooLarge x) c.new.ensures (c.in-Err.ensures.large large)))

pub returns-clause-faults : goal.returns-clause-faults
returns-clause-faults g c =
    let sized : c.is_size.result ≡ true = search rules in
    let holds : Holds c.in-Ok.file.items nothing = subst (λ (x : Content). Holds c.in-Ok.file.items x) c.new.ensures c.in-Ok.ensures.held in
    fresh_fits c.args.size c.deref.result.now c.in-Ok.file.items (c.is_size.ensures.0 sized).0 c.deref.ensures.value holds c.format.ensures.too_large c.format.ensures.not_shelf
