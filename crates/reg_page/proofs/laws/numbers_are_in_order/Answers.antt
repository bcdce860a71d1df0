use Rattle.reg_page.proofs.NumberLemmas.{in_order}
use Rattle.reg_page.proofs.laws.numbers_are_in_order.Goals as goal

pub returns : goal.returns
returns c = in_order
