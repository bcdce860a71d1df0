use Rattle.reg_tree.proofs.SayingLemmas.{undone_is_lost, all_say, alone, taken_back}
use Rattle.reg_tree.proofs.undone.laws.met_by_accident.Goals as goal

pub returns : goal.returns
returns c = record { lost = undone_is_lost; alone = alone; all_say = all_say; taken_back = taken_back }
