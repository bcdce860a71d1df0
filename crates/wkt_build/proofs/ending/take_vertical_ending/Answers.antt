use Rattle.std.proofs.Common.{refl}
use Rattle.wkt_build.specs.Rest.{BuildsRest, ReadsBefore, vertical_tail_fields, vertical_tail_row}
use Rattle.wkt_build.proofs.Held.{held, kept}
use Rattle.wkt_build.proofs.ending.take_vertical_ending.Goals as goal

pub returns-clause-builds : goal.returns-clause-builds
returns-clause-builds c =
    let both = c.in_ok-coordinates-2.ensures in
    let v = c.in_ok-coordinates-2.coordinates in
    let tail = c.in_ok-coordinates-2.tail in
    let mid = c.take_coordinates.new.cursor in
    let end = c.take_vertical_tail.new.cursor in
    kept (ReadsBefore vertical_tail_row vertical_tail_fields c.args.cursor.now mid) c.in_ok-coordinates.coordinates v both.0 c.in_ok-coordinates.ensures.before_vertical tail end
    (held (BuildsRest vertical_tail_row vertical_tail_fields mid end) c.take_vertical_tail.result tail tail both.1 refl c.take_vertical_tail.ensures.builds)
