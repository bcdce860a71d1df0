use Rattle.std.proofs.Common.{refl}
use Rattle.wkt_build.specs.Rest.{BuildsRest, ReadsBefore, tail_fields, tail_row}
use Rattle.wkt_build.proofs.Held.{held, kept}
use Rattle.wkt_build.proofs.ending.take_ending.Goals as goal

pub returns-clause-builds : goal.returns-clause-builds
returns-clause-builds c =
    let both = c.in_ok-coordinates-2.ensures in
    let v = c.in_ok-coordinates-2.coordinates in
    let tail = c.in_ok-coordinates-2.tail in
    let mid = c.take_coordinates.new.cursor in
    let end = c.take_tail.new.cursor in
    kept (ReadsBefore tail_row tail_fields c.args.cursor.now mid) c.in_ok-coordinates.coordinates v both.0 c.in_ok-coordinates.ensures.before tail end
    (held (BuildsRest tail_row tail_fields mid end) c.take_tail.result tail tail both.1 refl c.take_tail.ensures.builds)
