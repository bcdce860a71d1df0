use Rattle.std.proofs.Common.{◌≡◌, ◌++◌, ℕ, map, length}
use Rattle.std.specs.Global.{Vec}
use Rattle.reg_lint.specs.Questions.{questions_of}
use Rattle.reg_lint.proofs.asked.questions.Given as goal

abbrev pub invariant-loop-rule : goal.invariant-loop-rule
invariant-loop-rule l = map (λ (q : Vec ℕ). q.items) l.made.items ++ questions_of l.rest l.crs ≡ questions_of l.rules l.crs

abbrev pub decreases-loop-rule : goal.decreases-loop-rule
decreases-loop-rule l = length l.rest
