use Rattle.wkt_build.proofs.LeafLemmas.{text_result}
use Rattle.wkt_build.proofs.leaves.TextBuilt.build.Goals as goal

pub returns-clause-builds : goal.returns-clause-builds
returns-clause-builds c = text_result c.args.cursor.now c.take_text.new.cursor c.take_text.result c.take_text.ensures.takes
