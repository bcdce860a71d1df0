use Rattle.std.proofs.Common.{subst, ◌∙◌}
use Rattle.wkt_build.specs.Whole.{BuildsParts}
use Rattle.wkt_build.proofs.Roots.{whole_built}
use Rattle.wkt_build.proofs.root.build_parts.Goals as goal

pub returns : goal.returns
returns c = subst (λ l. BuildsParts l c.build.result) (c.new-reader.ensures ∙ c.cursor.ensures.tokens) (whole_built c.new-reader.result c.build.result _ c.build.ensures.builds)
