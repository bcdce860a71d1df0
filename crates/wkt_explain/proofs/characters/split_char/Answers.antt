use Rattle.wkt_explain.proofs.CharLemmas.{first_len-bounds, some_bytes, split_there}
use Rattle.wkt_explain.proofs.characters.split_char.Goals as goal

pub split_at-requires : goal.split_at-requires
split_at-requires c = rw c.first_len-len.ensures ((first_len-bounds c.args.bytes.now (some_bytes _ _ c.is_empty.ensures c.if-is_empty.false)).1)

pub returns : goal.returns
returns c = split_there c.args.bytes.now _ _ _ (some_bytes _ _ c.is_empty.ensures c.if-is_empty.false) c.first_len-len.ensures c.split_at.ensures.front c.split_at.ensures.back
