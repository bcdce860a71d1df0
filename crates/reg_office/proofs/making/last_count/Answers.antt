use Rattle.reg_office.proofs.NumberLemmas.{greatest_is}
use Rattle.reg_office.proofs.making.last_count.Goals as goal

pub returns : goal.returns
returns c = greatest_is c.args.replica c.args.seen.now c.greatest.result c.greatest.ensures
