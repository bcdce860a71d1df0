use Rattle.wkt_compare.proofs.EachCut.{each_cut}
use Rattle.wkt_compare.proofs.splitting.laws.each_cut.Goals as goal

pub returns : goal.returns
returns c = λ file. each_cut file
