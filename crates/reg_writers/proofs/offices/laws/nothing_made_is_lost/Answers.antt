use Rattle.std.proofs.Common.{sym, subst}
use Rattle.reg_journal.specs.Journals.{new_ops, IsWithin}
use Rattle.reg_writers.specs.OfficeDesk.{Desk, start, given, after}
use Rattle.reg_writers.proofs.OfficeStepLemmas.{given_there}
use Rattle.reg_writers.proofs.DeskLemmas.{always, after_next, is_copy, is_made, carries_nothing, carried}
use Rattle.reg_writers.proofs.offices.laws.nothing_made_is_lost.Goals as goal

pub returns : goal.returns
returns g = record {
  kept = λ cs ss later k o m.
      let d : Desk = after cs ss start in
      let h = always cs ss in
      (after_next cs later d h).grows (cs k).office o (given_there cs d.lock d.world k (d.stage k) (h.fits k) o m);
  left = λ cs ss later j k v one none made.
      let d : Desk = after cs ss start in
      let h = always cs ss in
      let next = after_next cs later d h in
      let e : Desk = after cs later d in
      let there : IsWithin (new_ops (given (d.stage j))) (d.world.files (cs k).office).reached =
      subst (λ i. IsWithin (new_ops (given (d.stage j))) (d.world.files i).reached) (sym one) (given_there cs d.lock d.world j (d.stage j) (h.fits j))
      in (
        carried (new_ops (given (d.stage j))) (e.stage k) v made (next.carries k (new_ops (given (d.stage j))) there (carries_nothing (new_ops (given (d.stage j))) (d.stage k) none)),
        (is_copy cs e next.holds v.register (is_made cs e.lock e.world k (e.stage k) v (next.holds.fits k) made)).content,
      );
}
