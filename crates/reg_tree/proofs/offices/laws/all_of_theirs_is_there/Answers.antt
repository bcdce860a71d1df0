use Rattle.reg_tree.proofs.OfficeLemmas.{theirs_is_content, theirs_all}
use Rattle.reg_tree.proofs.offices.laws.all_of_theirs_is_there.Goals as goal

pub returns : goal.returns
returns c = record { content = theirs_is_content; all = theirs_all }
