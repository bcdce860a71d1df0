use Rattle.std.proofs.Common.{refl, Some, None}
use Rattle.wkt_build.proofs.LeafLemmas.{count_takes}
use Rattle.wkt_build.proofs.leaves.take_count.Goals as goal

pub returns-in-Some-clause-takes : goal.returns-in-Some-clause-takes
returns-in-Some-clause-takes c = (count_takes c.args.cursor.now c.take_number-number.new.cursor c.take_number-number.result (Some c.in-Some.count) c.take_number-number.ensures.takes c.in-Some.ensures.only c.in-Some.count).0 refl

pub returns-in-None-clause-takes : goal.returns-in-None-clause-takes
returns-in-None-clause-takes c = (count_takes c.args.cursor.now c.take_number-number.new.cursor c.take_number-number.result None c.take_number-number.ensures.takes c.in-None.ensures.only 0).1 refl
