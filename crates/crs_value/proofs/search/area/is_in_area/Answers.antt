use Rattle.std.proofs.Common.{◌↔◌, List, IsTrue, subst}
use Rattle.std.specs.List.{Any}
use Rattle.crs_part.specs.declared.usages.Usage.{Usage}
use Rattle.crs_value.specs.Usages.{HasAreaPart}
use Rattle.crs_value.proofs.search.area.is_in_area.Goals as goal

pub returns : goal.returns
returns c = subst (λ (us : List Usage). IsTrue c.some_has_area_part.result ↔ Any (HasAreaPart c.args.part.now) us) c.usages_of.ensures c.some_has_area_part.ensures
