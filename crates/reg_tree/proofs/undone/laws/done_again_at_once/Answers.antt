use Rattle.reg_tree.proofs.LinkLemmas.{accepted, at_once}
use Rattle.reg_tree.proofs.undone.laws.done_again_at_once.Goals as goal

pub returns : goal.returns
returns c = record { accepted = accepted; at_once = at_once }
