use Rattle.reg_keys.proofs.EveryLemmas as law
use Rattle.reg_keys.proofs.laws.one_standing.Goals as goal

pub returns : goal.returns
returns c = record {
  every = law.one_meaning_every;
  each = law.one_meaning_each;
  every_fault = λ rs words. law.no_fault_every rs words 0;
  each_fault = λ rs words. law.no_fault_each rs words 0;
}
