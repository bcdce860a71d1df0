use Rattle.reg_news.proofs.RevivedLemmas.{no_ids, ids_more, ids_all}
use Rattle.reg_news.proofs.gained.revived.known_ids.Goals as goal

pub loop-id-init : goal.loop-id-init
loop-id-init c = no_ids c.new-known.result c.new-known.ensures.empty

pub loop-id-preserved : goal.loop-id-preserved
loop-id-preserved c = ids_more c.args.ids.now c.loop-id.id-index c.id-item.result c.loop-id.known c.put_id.new.known c.loop-id-test.true c.id-item.is c.in_ok-put_id.ensures c.loop-id.invariant

pub returns : goal.returns
returns c = ids_all c.args.ids.now c.loop-id.id-index c.loop-id.known c.loop-id-test.false c.loop-id.invariant
