use Rattle.std.proofs.Common.{sym}
use Rattle.reg_state.proofs.SearchLemmas.{apart_test, not_apart_back}
use Rattle.reg_state.proofs.run.is_apart.Goals as goal

pub returns-then-first-second-clause-yes : goal.returns-then-first-second-clause-yes
returns-then-first-second-clause-yes c = apart_test c.args.first.now c.args.second.now (sym c.in-Equal.ensures) c.if-first-second.true

pub returns-in-Greater-clause-no : goal.returns-in-Greater-clause-no
returns-in-Greater-clause-no c = not_apart_back c.args.first.now c.args.second.now (sym c.in-Greater.ensures)
