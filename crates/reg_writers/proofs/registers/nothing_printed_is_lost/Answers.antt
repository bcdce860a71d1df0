use Rattle.reg_writers.proofs.Kept.{always}
use Rattle.reg_writers.proofs.Left.{changes, given_on, any_of, any_adds}
use Rattle.reg_writers.proofs.RegisterLemmas.{many, many_add, gave_many}
use Rattle.reg_writers.proofs.registers.nothing_printed_is_lost.Goals as goal

pub returns : goal.returns
returns c = record {
  replaced = λ change are file events e. changes (any_of change) _ e (always (any_of change) (any_adds change) file events);
  kept = λ change are file events more k i h.
      given_on (many change) (many_add change are) _ more k i (always (many change) (many_add change are) file events) (gave_many change k _ i h);
  once = λ change are file events j k i gj gk.
      (always (many change) (many_add change are) file events).one j k i (gave_many change j _ i gj) (gave_many change k _ i gk);
}
