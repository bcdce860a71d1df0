use Rattle.std.proofs.Common.{◌↔◌, length}
use Rattle.std.specs.List.{Contains}
use Rattle.reg_lint.proofs.details.is_among.Given as goal

abbrev pub invariant-loop-first : goal.invariant-loop-first
invariant-loop-first l = Contains l.rules l.rule ↔ Contains l.rest l.rule

abbrev pub decreases-loop-first : goal.decreases-loop-first
decreases-loop-first l = length l.rest
