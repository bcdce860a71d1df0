use Rattle.std.proofs.Common.{sym, ◌∙◌}
use Rattle.std.specs.BTreeMap.{get}
use Rattle.crs_said.specs.Claims.{claim_seen}
use Rattle.reg_sense.specs.Least.{least, lesser}
use Rattle.reg_sense.specs.Most.{contents, is_more}
use Rattle.reg_sense.specs.Tallies.{bytes_cmp, seen_in}
use Rattle.reg_sense.proofs.MostLemmas.{content_is, most_kept, most_step}
use Rattle.reg_sense.proofs.most.put_content.Goals as goal

pub returns-then-has_content : goal.returns-then-has_content
returns-then-has_content c = λ vs xs has had q.
    let x = claim_seen c.args.claim.now in
    most_kept vs x xs q.now (seen_in (get bytes_cmp c.args.best.now q))
    (content_is (least (is_more vs x.word) (contents x.word xs)) x.content (sym (c.has_content.ensures vs xs had) ∙ c.if-has_content.true))
    (had q)

pub returns : goal.returns
returns c = λ vs xs has had q.
    let own = c.as_slice-word.result in
    let best = c.args.best.now in
    most_step vs (claim_seen c.args.claim.now) xs own c.better-content.result q (get bytes_cmp best own) (get bytes_cmp best q) (get bytes_cmp c.insert.new.self q)
    c.as_slice-word.ensures.value
    (c.better-content.ensures vs has ∙ (λ j. lesser (is_more vs (c.as_slice-word.ensures.value j)) (c.as_slice.ensures.value j) (seen_in (c.get.ensures.value j))))
    (had own ∙ (λ j. least (is_more vs (c.as_slice-word.ensures.value j)) (contents (c.as_slice-word.ensures.value j) xs)))
    (c.in_ok-insert.ensures.updates.0 q)
    (had q)
