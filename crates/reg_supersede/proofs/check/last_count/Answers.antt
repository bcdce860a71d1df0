use Rattle.std.proofs.Common.{◌≡◌, subst}
use Rattle.reg_office.specs.Making.{greatest}
use Rattle.reg_office.proofs.NumberLemmas.{greatest_is}
use Rattle.reg_supersede.proofs.check.last_count.Goals as goal

pub returns : goal.returns
returns c = subst (λ s. c.greatest.result ≡ greatest c.args.options.now.replica s) c.seen.ensures.value (greatest_is c.args.options.now.replica c.seen.result.now c.greatest.result c.greatest.ensures)
