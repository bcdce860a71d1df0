use Rattle.std.proofs.Common.{◌≡◌, map, take}
use Rattle.cli_change.specs.declared.change.ToldLine.{ToldLine}
use Rattle.cli_change.proofs.change.told_lines.Given as goal

abbrev pub invariant-loop-line : goal.invariant-loop-line
invariant-loop-line l = map (λ (t : ToldLine). t.line) l.lines.items ≡ take l.line-index l.refused
