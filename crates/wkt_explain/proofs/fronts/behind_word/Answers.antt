use Rattle.std.proofs.lemmas.List.Sums.{prefix_len-le-length}
use Rattle.wkt_tree.specs.Bytes.{is_word_byte}
use Rattle.wkt_explain.proofs.fronts.behind_word.Goals as goal

pub split_at-requires : goal.split_at-requires
split_at-requires c = rw c.word_len.ensures (prefix_len-le-length is_word_byte c.args.bytes.now)
