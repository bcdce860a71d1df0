use Rattle.std.proofs.Common.{inl, sym}
use Rattle.reg_state.proofs.RunLemmas.{begins_equal, below_back}
use Rattle.reg_state.proofs.run.begins_by.Goals as goal

pub returns-in-Equal-clause-yes : goal.returns-in-Equal-clause-yes
returns-in-Equal-clause-yes c = (begins_equal c.args.first c.args.second (sym c.in-Equal.ensures)).0

pub returns-in-Equal-clause-no : goal.returns-in-Equal-clause-no
returns-in-Equal-clause-no c = (begins_equal c.args.first c.args.second (sym c.in-Equal.ensures)).1

pub returns-in-Greater-clause-no : goal.returns-in-Greater-clause-no
returns-in-Greater-clause-no c = inl (below_back c.args.first.replica c.args.second.replica (sym c.in-Greater.ensures))
