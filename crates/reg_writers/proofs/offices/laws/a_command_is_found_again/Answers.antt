use Rattle.std.proofs.Common.{◌≡◌, true, List, subst}
use Rattle.reg_op.specs.Operations.{Op, Ops, kept}
use Rattle.reg_op.specs.Lists.{has}
use Rattle.reg_op.proofs.ContentLemmas.{union_right}
use Rattle.reg_journal.specs.Journals.{both}
use Rattle.reg_journal.specs.Again.{is_found}
use Rattle.reg_writers.specs.OfficeDesk.{Desk, start, given, after}
use Rattle.reg_writers.proofs.OfficeStepLemmas.{given_there, in_new}
use Rattle.reg_writers.proofs.DeskLemmas.{always, after_next}
use Rattle.reg_writers.proofs.AgainLemmas.{missed_found, all_found}
use Rattle.reg_writers.proofs.offices.laws.a_command_is_found_again.Goals as goal

pub returns : goal.returns
returns g = λ cs ss later k n c es are some missed.
    let d : Desk = after cs ss start in
    let h = always cs ss in
    let e : Desk = after cs later d in
    let all : Ops = both c (e.world.files (cs k).office) in
    all_found c.content.seen (kept all) (cs k).office (cs k).note n es some
    (subst (λ (os : List Op). (o : Op) → has os o ≡ true → is_found c.content.seen (kept all) o ≡ true) are
    (λ o m. missed_found c.content.seen all o (missed o m)
    (union_right c.reached (e.world.files (cs k).office).reached o ((after_next cs later d h).grows (cs k).office o (given_there cs d.lock d.world k (d.stage k) (h.fits k) o (in_new (given (d.stage k)) o m))))))
