use Rattle.wkt_grammar.specs.declared.table.Keyword.TheVariants as keywords
use Rattle.wkt_canonical.proofs.Runs as runs
use Rattle.wkt_canonical.proofs.identifiers.geoid_models.Goals as goal

pub loop-init : goal.loop-init
loop-init c = runs.none_yet _ _ _

pub loop-preserved : goal.loop-preserved
loop-preserved c = runs.one_more _ _ c.loop.invariant (runs.came_within _ _ keywords.GeoidModel c.in-Some.ensures c.in_ok-rest.ensures)
