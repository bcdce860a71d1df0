use Rattle.wkt_grammar.specs.declared.table.Keyword.TheVariants as keywords
use Rattle.wkt_canonical.specs.Reads.{beginning}
use Rattle.wkt_canonical.proofs.Wholes as wholes
use Rattle.wkt_canonical.proofs.crs.single.Goals as goal

pub returns-in-Some : goal.returns-in-Some
returns-in-Some c = wholes.at_front (beginning keywords.ProjectedCrs) _ c.in-Some.ensures c.in_ok-component.ensures

pub returns-in-Some-begins : goal.returns-in-Some-begins
returns-in-Some-begins c = wholes.at_front (beginning keywords.VerticalCrs) _ c.in-Some-begins.ensures c.in_ok-component-2.ensures

pub returns-in-Some-begins-2 : goal.returns-in-Some-begins-2
returns-in-Some-begins-2 c = wholes.at_front (beginning keywords.GeographicCrs) _ c.in-Some-begins-2.ensures c.in_ok-component-3.ensures

pub returns : goal.returns
returns c = wholes.at_front (beginning keywords.GeodeticCrs) _ c.in_ok-inside.ensures c.in_ok-component-4.ensures
