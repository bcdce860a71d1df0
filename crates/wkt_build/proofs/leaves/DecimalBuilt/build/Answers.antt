use Rattle.wkt_build.proofs.LeafLemmas.{number_made}
use Rattle.wkt_build.proofs.leaves.DecimalBuilt.build.Goals as goal

pub returns-clause-builds : goal.returns-clause-builds
returns-clause-builds c = number_made c.args.cursor.now c.take_number.new.cursor c.take_number.result c.take_number.ensures.takes
