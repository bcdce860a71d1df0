use Rattle.wkt_grammar.specs.declared.table.Keyword.TheVariants as keywords
use Rattle.wkt_canonical.proofs.Runs as runs
use Rattle.wkt_canonical.proofs.identifiers.method.Goals as goal

pub returns : goal.returns
returns c = runs.came_within _ _ keywords.Method c.in_ok-inside.ensures c.in_ok-rest.ensures
