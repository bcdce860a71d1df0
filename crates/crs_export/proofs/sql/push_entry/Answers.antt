use Rattle.std.proofs.Common.{◌++◌, ap, ◌∙◌}
use Rattle.crs_export.specs.Sql.{line_as}
use Rattle.crs_export.proofs.sql.push_entry.Goals as goal

pub returns : goal.returns
returns c = λ before held.
    let one = c.in_ok-verdict.ensures before held in (
      c.in_ok-push_line.ensures ∙ ap (λ v. c.args.text.now.items ++ line_as c.args.filed.now v) one.0,
      one.1,
    )
