use Rattle.reg_tree.proofs.PruneLemmas.{says-kept}
use Rattle.reg_tree.proofs.WordLemmas.{said_by, withdrawn_by}
use Rattle.reg_tree.proofs.undone.laws.what_is_said.Goals as goal

pub returns : goal.returns
returns c = record { by = said_by; withdrawn = withdrawn_by; pruned = says-kept }
