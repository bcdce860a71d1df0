use Rattle.wkt_crs.specs.Spells.{canon}
use Rattle.wkt_crs.proofs.Defining.{of_definition, spelled_as_defined}
use Rattle.wkt_crs.proofs.definition.Definition.new.Goals as goal

pub returns-then-not-has_identifier-clause-only : goal.returns-then-not-has_identifier-clause-only
returns-then-not-has_identifier-clause-only c = λ d.
    absurd ((of_definition (canon c.args.crs) c.args.crs d (spelled_as_defined c.args.crs d)).1 (c.has_identifier.ensures.none c.if-not-has_identifier.true))
