use Rattle.std.proofs.Common.{◌≡◌, [], refl, sym, subst}
use Rattle.reg_op.specs.Contents.{state}
use Rattle.reg_journal.specs.Journals.{Copy, IsWithin}
use Rattle.reg_writers.specs.Works.{Work}
use Rattle.reg_writers.specs.OfficeDesk.{Desk, HasPrinted, Ended, start, after}
use Rattle.reg_writers.proofs.DeskLemmas.{always}
use Rattle.reg_writers.proofs.DoneLemmas.{done, is_done, done_stage, done_stands, done_file, ended_stage, is_ended, is_refused, all_made, makes, has_all, has_old}
use Rattle.reg_writers.proofs.offices.laws.a_stop_is_mended.Goals as goal

pub returns : goal.returns
returns g = record {
  done = λ cs ss k p q os idle at e.
      let d : Desk = after cs ss start in
      let h = always cs ss in
      let v : Work = all_made cs d h k p q idle at os e in
      let makes_it = makes cs d h k p q idle at os e in
      let stands = done_stands cs d h k p q idle at v makes_it in
      subst (λ (x : Desk). (x.stage k ≡ HasPrinted os) × ((x.stands q).content ≡ state (x.stands q).reached) × IsWithin (d.stands p).reached (x.stands q).reached × IsWithin (x.world.files (cs k).office).reached (x.stands q).reached)
      (sym (is_done cs d h k p q idle at v makes_it)) (
        done_stage cs d h k p q idle at v makes_it,
        subst (λ (r : Copy). r.content ≡ state r.reached) (sym stands) refl,
        subst (λ (r : Copy). IsWithin (d.stands p).reached r.reached) (sym stands) (has_old cs d h k p q idle at os e),
        subst (λ (r : Copy). IsWithin r.reached ((done cs d h k p q idle at v makes_it).stands q).reached) (sym (done_file cs d h k p q idle at v makes_it))
            (subst (λ (r : Copy). IsWithin v.file.reached r.reached) (sym stands) (has_all cs d h k p q idle at os e)),
      );
  refused = λ cs ss k p q fault idle at e.
      let d : Desk = after cs ss start in
      let h = always cs ss in
      let none = is_refused cs d h k p q idle at fault e in
      subst (λ (x : Desk). (x.stage k ≡ Ended []) × (x.world ≡ d.world) × (x.stands ≡ d.stands))
      (sym (is_ended cs d h k p q idle at none)) (ended_stage cs d h k p q idle at none, refl, refl);
}
