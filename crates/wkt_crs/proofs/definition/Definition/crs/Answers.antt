use Rattle.std.proofs.Common.{sym, subst}
use Rattle.wkt_crs.specs.Definition.{IsCrsOf, IsDefinition}
use Rattle.wkt_crs.proofs.Defining.{crs_of_definition, spelled_by_definition}
use Rattle.wkt_crs.proofs.definition.Definition.crs.Goals as goal

pub read_spelled-requires : goal.read_spelled-requires
read_spelled-requires c =
    let d = subst (λ b. IsDefinition b) (sym c.as_bytes.ensures.bytes) c.as_bytes.ensures.canonical in
    (d.crs, spelled_by_definition c.as_bytes.result.now d)

pub returns-in-Ok : goal.returns-in-Ok
returns-in-Ok c =
    subst (IsCrsOf c.in-Ok.crs) c.as_bytes.ensures.bytes
    (crs_of_definition c.as_bytes.result.now c.in-Ok.crs (subst (λ b. IsDefinition b) (sym c.as_bytes.ensures.bytes) c.as_bytes.ensures.canonical) c.in-Ok.ensures)
