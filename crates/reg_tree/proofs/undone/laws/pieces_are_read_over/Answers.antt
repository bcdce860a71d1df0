use Rattle.reg_tree.proofs.OverLemmas.{over_joins, whole_is_itself}
use Rattle.reg_tree.proofs.undone.laws.pieces_are_read_over.Goals as goal

pub returns : goal.returns
returns c = record { join = over_joins; itself = whole_is_itself }
