use Rattle.reg_tree.proofs.GatheredLemmas.{puts_saying}
use Rattle.reg_tree.proofs.undone.voice.put_saying.Goals as goal

pub returns : goal.returns
returns c = rw c.in-Some.is (puts_saying c.args.set.now c.insert.new.self c.in-Some.saying c.in_ok-insert.ensures.updates.0)
