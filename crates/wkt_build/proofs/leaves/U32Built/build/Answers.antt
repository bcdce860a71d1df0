use Rattle.wkt_build.proofs.LeafLemmas.{count_made}
use Rattle.wkt_build.proofs.leaves.U32Built.build.Goals as goal

pub returns-clause-builds : goal.returns-clause-builds
returns-clause-builds c = count_made c.args.cursor.now c.take_count.new.cursor c.take_count.result c.take_count.ensures.takes
