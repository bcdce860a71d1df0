use Rattle.std.proofs.Common.{inr, sym, ◌∙◌}
use Rattle.reg_report.specs.Keys.{key_bytes}
use Rattle.reg_disorder.proofs.withdrawn.put_row.Goals as goal

pub returns : goal.returns
returns c = inr (sym c.is_retired.ensures ∙ c.if-is_retired.false, (key_bytes c.key_of.result, c.key_of.ensures, c.in_ok-put_key.ensures))
