use Rattle.std.proofs.Common.{◌∙◌, ap, codes}
use Rattle.crs_conversion.specs.declared.tables.TheConstants.{PARAMETERS}
use Rattle.crs_conversion.specs.Codes.{known}
use Rattle.crs_conversion.specs.Operation.{misnamed}
use Rattle.crs_conversion.proofs.operation.misnamed_parameter.Goals as goal

pub returns : goal.returns
returns c =
    c.misnamed.ensures
    ∙ (ap (λ r. misnamed (codes "the parameter") c.as_bytes.result.now r) c.known.ensures
    ∙ (ap (λ n. misnamed (codes "the parameter") n (known PARAMETERS.now c.as_slice.result.now)) c.as_bytes.ensures
    ∙ ap (λ i. misnamed (codes "the parameter") c.args.parameter.now.name.bytes (known PARAMETERS.now i)) c.as_slice.ensures))
