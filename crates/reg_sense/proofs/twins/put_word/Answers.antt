use Rattle.std.proofs.Common.{◌∷◌, cond, ◌∙◌}
use Rattle.std.specs.BTreeMap.{get}
use Rattle.std.specs.List.{list_any}
use Rattle.crs_said.specs.Claims.{claim_seen}
use Rattle.reg_sense.specs.Claimants.{voice, is_about}
use Rattle.reg_sense.specs.Keys.{is_before}
use Rattle.reg_sense.specs.Least.{least, lesser}
use Rattle.reg_sense.specs.Tallies.{bytes_cmp}
use Rattle.reg_sense.specs.Twins.{saying, voice_in}
use Rattle.reg_sense.proofs.TwinLemmas.{word_step}
use Rattle.reg_sense.proofs.twins.put_word.Goals as goal

pub returns : goal.returns
returns c = λ done vs had q.
    let own = c.as_slice-word.result in
    let v = voice c.args.claimant.now in
    let firsts = c.args.firsts.now in
    word_step v (claim_seen c.args.claim.now) done vs own c.lesser-made.result q (get bytes_cmp firsts own) (get bytes_cmp firsts q) (get bytes_cmp c.insert.new.self q)
    c.as_slice-word.ensures.value
    (c.lesser-made.ensures ∙ (λ j. lesser is_before v (voice_in (c.get.ensures.value j))))
    (had own ∙ (λ j. least is_before (cond (list_any (is_about (c.as_slice-word.ensures.value j)) done) (v ∷ saying (c.as_slice-word.ensures.value j) vs) (saying (c.as_slice-word.ensures.value j) vs))))
    (c.in_ok-insert.ensures.updates.0 q)
    (had q)
