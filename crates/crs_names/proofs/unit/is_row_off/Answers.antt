use Rattle.std.proofs.Common.{ℕ, List, Option, ap, codes, ◌∙◌}
use Rattle.crs_exact.specs.Tables.{fixed}
use Rattle.crs_names.specs.Unit.{off_by}
use Rattle.crs_names.proofs.unit.is_row_off.Goals as goal

pub returns-in-Some : goal.returns-in-Some
returns-in-Some c =
    c.is_off.ensures ∙ ap (λ (o : Option ℕ). off_by o c.args.given) (c.in-Some.ensures.value ∙ ap (λ (l : List ℕ). fixed (codes "00000000000000000000") l) c.factor.ensures)
