use Rattle.std.proofs.Common.{None, [], ◌∷◌, map, refl, ap, ◌∙◌}
use Rattle.std.proofs.lemmas.List.{map-append}
use Rattle.reg_sense.specs.Claimants.{detail_seen}
use Rattle.reg_lint.proofs.DisputeLemmas.{no_detail}
use Rattle.reg_lint.proofs.KeptLemmas.{map_begun, map_step, map_done}
use Rattle.reg_lint.proofs.details.no_details.Goals as goal

pub loop-others-init : goal.loop-others-init
loop-others-init c = map_begun no_detail c.args.kept.now (map detail_seen c.in_ok-made.made.items) (ap (map detail_seen) c.in_ok-made.ensures.items)

pub loop-others-preserved : goal.loop-others-preserved
loop-others-preserved c =
    map_step no_detail c.args.kept.now c.loop-others.rest.now c.in-Some.others.now _
    (map detail_seen c.loop-others.made.items) (map detail_seen c.push.new.self.items) None
    c.in-Some.ensures.cases.0
    (ap (map detail_seen) c.in_ok-push.ensures.items ∙ map-append detail_seen c.loop-others.made.items (None ∷ []))
    (λ s is. refl) c.loop-others.invariant

pub returns : goal.returns
returns c = map_done no_detail c.args.kept.now c.loop-others.rest.now (map detail_seen c.loop-others.made.items) c.in_default.ensures.cases c.loop-others.invariant
