use Rattle.std.proofs.lemmas.List.Sums.{prefix_len-le-length}
use Rattle.wkt_tree.specs.Bytes.{is_blank}
use Rattle.wkt_explain.proofs.fronts.behind_blanks.Goals as goal

pub split_at-requires : goal.split_at-requires
split_at-requires c = rw c.blank_len.ensures (prefix_len-le-length is_blank c.args.text.now)
