use Rattle.std.proofs.Common.{map, ap, ◌∙◌}
use Rattle.crs_said.specs.Claims.{Said, claim_seen}
use Rattle.reg_lint.specs.Disputes.{is_open}
use Rattle.reg_lint.proofs.DisputeLemmas.{map_filter}
use Rattle.reg_lint.proofs.voices.keep_open.Goals as goal

pub returns : goal.returns
returns c =
    ap (map claim_seen) (c.shrink_to_fit.ensures.items ∙ c.retain_open.ensures)
    ∙ map_filter claim_seen (λ (x : Said). is_open c.args.disputes.now c.args.rule x.word) c.args.claims.now.items
