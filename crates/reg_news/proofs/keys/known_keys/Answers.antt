use Rattle.std.proofs.Common.{map, take}
use Rattle.reg_report.specs.Conflicts.{bytes_of}
use Rattle.reg_news.specs.Keys.{HasKeys}
use Rattle.reg_news.proofs.KeyLemmas.{items_more, items_all, no_keys, keys_more}
use Rattle.reg_news.proofs.keys.known_keys.Goals as goal

pub loop-key-init : goal.loop-key-init
loop-key-init c = no_keys c.new-known.result c.new-known.ensures.empty

pub loop-key-preserved : goal.loop-key-preserved
loop-key-preserved c =
    items_more bytes_of (λ ks. HasKeys ks c.put_key.new.known) c.args.keys.now c.loop-key.key-index c.key-item.result c.loop-key-test.true c.key-item.is
    (keys_more (map bytes_of (take c.loop-key.key-index c.args.keys.now)) (bytes_of c.key-item.result) c.loop-key.known c.put_key.new.known c.in_ok-put_key.ensures c.loop-key.invariant)

pub returns : goal.returns
returns c = items_all bytes_of (λ ks. HasKeys ks c.loop-key.known) c.args.keys.now c.loop-key.key-index c.loop-key-test.false c.loop-key.invariant
