use Rattle.std.proofs.Common.{◌↔◌, List, IsTrue, subst}
use Rattle.std.specs.List.{Any}
use Rattle.crs_part.specs.declared.usages.Usage.{Usage}
use Rattle.crs_value.specs.Usages.{HasBoxAround}
use Rattle.crs_value.proofs.search.point.has_point.Goals as goal

pub returns : goal.returns
returns c = subst (λ (us : List Usage). IsTrue c.some_has_box_around.result ↔ Any (HasBoxAround c.args.point.now) us) c.usages_of.ensures c.some_has_box_around.ensures
