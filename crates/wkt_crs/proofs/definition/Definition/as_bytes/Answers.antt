use Rattle.std.proofs.Common.{subst}
use Rattle.wkt_crs.specs.Definition.{IsDefinition}
use Rattle.wkt_crs.proofs.Defining.{is_definition}
use Rattle.wkt_crs.proofs.definition.Definition.as_bytes.Goals as goal

pub returns-clause-canonical : goal.returns-clause-canonical
returns-clause-canonical c =
    let b = c.self.inside.body.value in
    subst IsDefinition c.self.view_is (is_definition b.key b.name b.text b.defined)
