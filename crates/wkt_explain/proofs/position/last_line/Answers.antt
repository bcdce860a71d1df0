use Rattle.std.proofs.lemmas.List.Sums.{suffix_len-le-length}
use Rattle.wkt_explain.specs.Position.{goes_on}
use Rattle.wkt_explain.proofs.position.last_line.Goals as goal

pub overflow_sub-bytes : goal.overflow_sub-bytes
overflow_sub-bytes c = rw c.back_len-len.ensures (suffix_len-le-length goes_on c.args.bytes.now)
