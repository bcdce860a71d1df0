use Rattle.std.proofs.Common.{Some, cond, refl, ◌∙◌}
use Rattle.std.specs.BTreeMap.{get}
use Rattle.std.specs.List.{list_any}
use Rattle.crs_said.specs.Claims.{claim_seen}
use Rattle.reg_sense.specs.declared.others.Sides.{Sides}
use Rattle.reg_sense.specs.Claimants.{voice}
use Rattle.reg_sense.specs.Others.{is_other, first_other, apart}
use Rattle.reg_sense.specs.Tallies.{bytes_cmp}
use Rattle.reg_sense.proofs.OtherLemmas.{side_step}
use Rattle.reg_sense.proofs.others.put_claim.Goals as goal

pub returns : goal.returns
returns c = λ done vs had q d.
    let own = c.as_slice-word.result in
    let v = voice c.args.claimant.now in
    let sides = c.args.sides.now in
    let word = c.as_slice-word.ensures.value in
    let content = c.as_slice-content.ensures.value in
    let made : Sides = record { content = c.as_slice-content.result; first = c.args.claimant; other = c.apart-other.result } in
    side_step v (claim_seen c.args.claim.now) done vs own made q d (get bytes_cmp sides q) (get bytes_cmp c.insert.new.self q)
    word refl content
    (c.apart-other.ensures
    ∙ (λ j. apart c.as_slice-content.result.now (c.get.ensures.value j))
    ∙ had own c.as_slice-content.result.now
    ∙ (λ j. cond (list_any (is_other (word j) (content j)) done) (Some v) (first_other vs (word j) (content j))))
    (c.in_ok-insert.ensures.updates.0 q)
    (had q d)
