use Rattle.reg_import.proofs.ModeLemmas as law
use Rattle.reg_import.proofs.laws.revise_leaves_one_text.Goals as goal

pub returns : goal.returns
returns c = λ x y replica note keep_going texts readings ts is ahead are. law.revised x y replica note keep_going texts readings ts is are ahead
