use Rattle.std.proofs.Common.{◌++◌, map, ap, ◌∙◌}
use Rattle.reg_report.specs.Lines.{sheet_text}
use Rattle.reg_sense.specs.Claimants.{detail_seen}
use Rattle.reg_lint.specs.Known.{has_mark}
use Rattle.reg_lint.specs.Lines.{all_lines}
use Rattle.reg_lint.proofs.StepLemmas.{rule_step}
use Rattle.reg_lint.proofs.lines.write_all_lines.Goals as goal

pub loop-rule-preserved : goal.loop-rule-preserved
loop-rule-preserved c = (
  c.in_ok-write_lines.ensures.ready,
  λ ss are settled.
      rule_step (has_mark c.args.known.now) c.in-Some.rule.now c.in-Some.others.now c.loop-rule.rest.now ss (map detail_seen c.deref.result.now)
      (sheet_text c.loop-rule.wtr) (sheet_text c.write_lines.new.wtr) (sheet_text c.args.wtr.now ++ all_lines (has_mark c.args.known.now) c.args.rules.now ss)
      c.in-Some.ensures.cases.0 (ap (map detail_seen) c.deref.ensures.value ∙ c.in_ok-found.ensures ss are settled) (c.in_ok-write_lines.ensures.rows ss are).wrote (c.loop-rule.invariant.1 ss are settled),
)
