use Rattle.std.proofs.Common.{option_map}
use Rattle.reg_file.specs.Files.{Holds, IsTooLarge}
use Rattle.reg_engine.proofs.OutputLemmas.{published_by, unpublished_by}
use Rattle.reg_engine.proofs.outputs.publish_register.Goals as goal

pub returns-in-Ok-clause-published : goal.returns-in-Ok-clause-published
returns-in-Ok-clause-published g c =
    published_by c.publish_chunks.result (λ b. Holds b c.args.register.now) (option_map (λ s. s.now) c.args.read) _ (g.P.Place.state c.args.place.now) (g.P.Place.state c.publish_chunks.new.place)
    c.in-Ok.ensures.held c.publish_chunks.ensures.published

pub returns-in-Ok-clause-fault : goal.returns-in-Ok-clause-fault
returns-in-Ok-clause-fault g c =
    unpublished_by c.publish_chunks.result (λ b. Holds b c.args.register.now) (IsTooLarge c.args.register.now) (option_map (λ s. s.now) c.args.read) _ (g.P.Place.state c.args.place.now) (g.P.Place.state c.publish_chunks.new.place)
    c.in-Ok.ensures.held c.publish_chunks.ensures.fault
