use Rattle.std.proofs.Common.{rules, ◌≡◌, [], ◌∷◌, ◌++◌}
use Rattle.cli_change.specs.declared.change.ToldLine.{ToldLine}
use Rattle.cli_change.proofs.Lines.{one_more}
use Rattle.cli_change.proofs.change.told_lines.Goals as goal

pub loop-line-preserved : goal.loop-line-preserved
loop-line-preserved c =
    let grown : c.push.new.self.items ≡ c.loop-line.lines.items ++ c.in_ok-told.told ∷ [] = search rules in
    one_more (λ (t : ToldLine). t.line) c.args.refused.now c.loop-line.line-index c.line-item.result c.loop-line.lines.items c.push.new.self.items c.in_ok-told.told
    c.loop-line-test.true c.line-item.is c.loop-line.invariant grown c.in_ok-told.ensures
