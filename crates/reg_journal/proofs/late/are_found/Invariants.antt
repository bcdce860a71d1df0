use Rattle.std.proofs.Common.{◌≡◌, ◌+◌, ◌-◌, drop, length}
use Rattle.std.specs.List.{list_all}
use Rattle.reg_office.specs.Making.{numbered}
use Rattle.reg_journal.specs.Again.{is_found}
use Rattle.reg_journal.proofs.late.are_found.Given as goal

abbrev pub invariant-loop-at : goal.invariant-loop-at
invariant-loop-at l =
    list_all (is_found l.seen l.joined.ops) (numbered l.replica l.first l.note l.effects)
    ≡ list_all (is_found l.seen l.joined.ops) (numbered l.replica (l.first + l.at) l.note (drop l.at l.effects))

abbrev pub decreases-loop-at : goal.decreases-loop-at
decreases-loop-at l = length l.effects - l.at
