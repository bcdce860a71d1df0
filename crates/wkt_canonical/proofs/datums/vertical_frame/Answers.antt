use Rattle.wkt_canonical.proofs.Nodes as nodes
use Rattle.wkt_canonical.proofs.datums.vertical_frame.Goals as goal

pub returns-in-Some : goal.returns-in-Some
returns-in-Some c = nodes.vertical_frame_of_ensemble c.in-Some.ensures c.in_ok-rest.ensures

pub returns : goal.returns
returns c = nodes.vertical_frame_of_datum c.in_ok-inside.ensures c.in_ok-rest-2.ensures
