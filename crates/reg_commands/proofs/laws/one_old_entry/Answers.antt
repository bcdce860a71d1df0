use Rattle.reg_commands.proofs.EachLemmas.{one_makes, one_refused}
use Rattle.reg_commands.proofs.laws.one_old_entry.Goals as goal

pub returns : goal.returns
returns c = record {
  makes = λ replica note old newer x y lines. one_makes replica note newer x old y lines;
  refuses = λ replica note old newer x fault. one_refused replica note newer x old fault;
}
