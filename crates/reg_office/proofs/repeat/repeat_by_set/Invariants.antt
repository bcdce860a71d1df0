use Rattle.std.proofs.Common.{◌≡◌, take}
use Rattle.std.specs.List.{list_any}
use Rattle.std.specs.BTreeSet.{contains}
use Rattle.reg_op.specs.Ids.{Id, id_cmp, is_same}
use Rattle.reg_office.proofs.RepeatLemmas.{Fresh}
use Rattle.reg_office.proofs.repeat.repeat_by_set.Given as goal

abbrev pub invariant-loop-at : goal.invariant-loop-at
invariant-loop-at l = Fresh l.named l.at × ((q : Id) → contains id_cmp l.before q ≡ list_any (is_same q) (take l.at l.named))
