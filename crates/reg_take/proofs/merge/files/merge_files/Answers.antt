use Rattle.std.proofs.Common.{refl, map, subst, List, ℕ, Option, None, ◌∙◌}
use Rattle.byte_out.specs.Input.{kept_of, first_kept}
use Rattle.reg_engine.specs.Outputs.{PublishesFile, IsUnpublished}
use Rattle.reg_engine.proofs.InputLemmas.{none_failed}
use Rattle.reg_commands.specs.Merge.{ends}
use Rattle.reg_commands.proofs.MergeLemmas.{unread, unmerged, of_parts}
use Rattle.reg_take.proofs.MergingLemmas.{unjoined}
use Rattle.reg_take.proofs.merge.files.merge_files.Goals as goal

pub returns-in-Err-clause-fault : goal.returns-in-Err-clause-fault
returns-in-Err-clause-fault g c =
    unread (ends (map g.S.Source.state c.args.sources.now) None (g.P.Place.state c.args.place.now))
    (ends (map g.S.Source.state c.read_parts.new.sources) (first_kept (map (λ s. kept_of (g.S.Input.keeps s) (g.S.Source.state s)) c.read_parts.new.sources)) (g.P.Place.state c.args.place.now))
    refl c.in-Err.fault c.in-Err.ensures.fault

pub returns-in-Err-join_parts-clause-fault : goal.returns-in-Err-join_parts-clause-fault
returns-in-Err-join_parts-clause-fault g c =
    unjoined (ends (map g.S.Source.state c.args.sources.now) None (g.P.Place.state c.args.place.now))
    (ends (map g.S.Source.state c.read_parts.new.sources) (first_kept (map (λ s. kept_of (g.S.Input.keeps s) (g.S.Source.state s)) c.read_parts.new.sources)) (g.P.Place.state c.args.place.now))
    _ _ c.in-Ok.ensures.found refl c.in-Err-join_parts.fault c.in-Err-join_parts.ensures.err

pub returns-in_default-clause-fault : goal.returns-in_default-clause-fault
returns-in_default-clause-fault g c =
    let found = c.in-Ok.ensures.found in
    (none_failed (map g.S.Source.state c.args.sources.now) (map g.S.Source.state c.read_parts.new.sources) found.0 found.1, refl)

pub returns-in-Ok-publish_register-clause-merged : goal.returns-in-Ok-publish_register-clause-merged
returns-in-Ok-publish_register-clause-merged g c =
    let found = c.in-Ok.ensures.found in (
      found.0,
      found.1,
      found.2,
      found.3,
      of_parts found.0 _ _ found.2 found.3 ∙ c.in-Ok-join_parts.ensures.ok,
      subst (λ (r : Option (List ℕ)). PublishesFile c.in-Ok-join_parts.joined r (g.P.Place.state c.args.place.now) (g.P.Place.state c.publish_register.new.place)) c.in-Ok-first_kept.ensures c.in-Ok-publish_register.ensures.published,
    )

pub returns-in-Err-publish_register-clause-fault : goal.returns-in-Err-publish_register-clause-fault
returns-in-Err-publish_register-clause-fault g c =
    let found = c.in-Ok.ensures.found in
    unmerged (ends (map g.S.Source.state c.args.sources.now) None (g.P.Place.state c.args.place.now))
    (ends (map g.S.Source.state c.read_parts.new.sources) (first_kept (map (λ s. kept_of (g.S.Input.keeps s) (g.S.Source.state s)) c.read_parts.new.sources)) (g.P.Place.state c.publish_register.new.place))
    found.0 c.in-Ok-join_parts.joined found.1 (of_parts found.0 _ _ found.2 found.3 ∙ c.in-Ok-join_parts.ensures.ok)
    c.in-Err-publish_register.fault (subst (λ (r : Option (List ℕ)). IsUnpublished c.in-Ok-join_parts.joined r (g.P.Place.state c.args.place.now) (g.P.Place.state c.publish_register.new.place) c.in-Err-publish_register.fault) c.in-Ok-first_kept.ensures c.in-Err-publish_register.ensures.fault)
