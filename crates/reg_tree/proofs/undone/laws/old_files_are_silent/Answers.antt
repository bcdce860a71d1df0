use Rattle.reg_tree.proofs.SayingLemmas.{all_seen, silent_part, silent_once}
use Rattle.reg_tree.proofs.undone.laws.old_files_are_silent.Goals as goal

pub returns : goal.returns
returns c = record { all_seen = all_seen; part = silent_part; once = silent_once }
