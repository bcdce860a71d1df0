use Rattle.std.proofs.Common.{◌≡◌, ◌++◌, take}
use Rattle.reg_office.specs.Commands.{supersessions}
use Rattle.reg_commands.proofs.again.words.push_supersessions.Given as goal

abbrev pub invariant-loop-entry : goal.invariant-loop-entry
invariant-loop-entry l = l.made.items ≡ l.initial.made.items ++ supersessions l.old (take l.entry-index l.newer)
