use Rattle.std.proofs.Common.{length}
use Rattle.reg_op.specs.Operations.{Op}
use Rattle.reg_query.specs.Asked.{AreWanted, is_asked}
use Rattle.reg_query.specs.Log.{subject}
use Rattle.reg_query.specs.declared.log.asked.Asked.{Asked}
use Rattle.reg_query.proofs.LogLemmas.{Picks}
use Rattle.reg_query.proofs.log.logged.ops_wanted.Given as goal

abbrev pub invariant-loop-op : goal.invariant-loop-op
invariant-loop-op l = (a : Asked) → AreWanted a l.wanted → Picks (λ (o : Op). is_asked a (subject o)) l.ops l.rest l.made.items

abbrev pub decreases-loop-op : goal.decreases-loop-op
decreases-loop-op l = length l.rest
