use Rattle.std.proofs.Common.{List, ℕ, Option, subst}
use Rattle.byte_out.specs.Place.{PlaceState}
use Rattle.byte_out.specs.Input.{kept_of}
use Rattle.reg_engine.specs.Outputs.{PublishesFile, IsUnpublished}
use Rattle.reg_engine.proofs.store.InFileKeep.keep.Goals as goal

pub returns-in_default-clause-unleft : goal.returns-in_default-clause-unleft
returns-in_default-clause-unleft g c = λ first was same came. (came.0, came.1)

pub returns-in-Ok-publish_register-clause-left : goal.returns-in-Ok-publish_register-clause-left
returns-in-Ok-publish_register-clause-left g c = λ first was same came.
    let s = c.args.self.now.source.now in
    let after = g.P.Place.state c.publish_register.new.place in (
      came.0,
      subst (λ (p : PlaceState). PublishesFile c.args.register.now (kept_of (g.S.Input.keeps s) (g.S.Source.state s)) p after) came.1
          (subst (λ (r : Option (List ℕ)). PublishesFile c.args.register.now r (g.P.Place.state c.args.self.now.place.now) after) c.in-Ok.ensures c.in-Ok-publish_register.ensures.published),
    )

pub returns-in-Err-clause-unleft : goal.returns-in-Err-clause-unleft
returns-in-Err-clause-unleft g c = λ first was same came.
    let s = c.args.self.now.source.now in
    let after = g.P.Place.state c.publish_register.new.place in (
      came.0,
      subst (λ (p : PlaceState). IsUnpublished c.args.register.now (kept_of (g.S.Input.keeps s) (g.S.Source.state s)) p after c.in-Err.fault) came.1
          (subst (λ (r : Option (List ℕ)). IsUnpublished c.args.register.now r (g.P.Place.state c.args.self.now.place.now) after c.in-Err.fault) c.in-Ok.ensures c.in-Err.ensures.fault),
    )
