use Rattle.wkt_write.proofs.Keeping.{word_plain}
use Rattle.wkt_write.proofs.condensing.bytes.plain_len.Goals as goal

pub returns-clause-plain : goal.returns-clause-plain
returns-clause-plain c =
    word_plain c.args.bytes.now c.split_at.result.1.now c.inner_len-inner.result c.delimiter_len.result c.inner_len-inner.ensures.is c.split_at.ensures.back c.delimiter_len.ensures.is
