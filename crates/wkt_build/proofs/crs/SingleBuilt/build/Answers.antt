use Rattle.wkt_build.proofs.Chosen.{component}
use Rattle.wkt_build.proofs.crs.SingleBuilt.build.Goals as goal

pub returns-clause-builds : goal.returns-clause-builds
returns-clause-builds c = λ x rest f n. c.build_single.ensures.builds x rest (component x c.args.cursor.now rest f n) n
