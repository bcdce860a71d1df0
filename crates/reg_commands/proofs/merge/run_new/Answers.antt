use Rattle.std.proofs.Common.{subst, None}
use Rattle.reg_engine.specs.Outputs.{IsUnpublished}
use Rattle.reg_commands.proofs.MergeLemmas.{never_too_large}
use Rattle.reg_commands.proofs.merge.run_new.Goals as goal

pub returns-clause-small : goal.returns-clause-small
returns-clause-small g c =
    let before = g.P.Place.state c.args.place.now in
    let after = g.P.Place.state c.publish_register-2.new.place in
    never_too_large before after c.in-Err.fault (subst (λ x. IsUnpublished x None before after c.in-Err.fault) c.new.ensures c.in-Err.ensures.fault)
