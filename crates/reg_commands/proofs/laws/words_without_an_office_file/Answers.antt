use Rattle.reg_commands.proofs.MeaningLemmas.{both_stand, both_fail}
use Rattle.reg_commands.proofs.laws.words_without_an_office_file.Goals as goal

pub returns : goal.returns
returns c = record {
  mean = λ rs every each es fs. both_stand rs every each es fs;
  fail = λ rs every each fault. both_fail rs every each fault;
}
