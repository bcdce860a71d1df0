use Rattle.std.proofs.lemmas.List.Sums.{prefix_len-le-length}
use Rattle.wkt_explain.specs.Position.{goes_on}
use Rattle.wkt_explain.proofs.position.first_line.Goals as goal

pub split_at-requires : goal.split_at-requires
split_at-requires c = rw c.front_len.ensures (prefix_len-le-length goes_on c.args.bytes.now)
