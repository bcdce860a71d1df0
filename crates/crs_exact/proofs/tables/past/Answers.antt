use Rattle.std.proofs.lemmas.List.Sums.{prefix_len-le-length}
use Rattle.crs_exact.specs.Tables.{goes_on}
use Rattle.crs_exact.proofs.tables.past.Goals as goal

pub split_at-requires : goal.split_at-requires
split_at-requires c = rw c.piece_len.ensures (prefix_len-le-length (goes_on c.args.mark) c.args.text.now)
