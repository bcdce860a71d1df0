use Rattle.std.proofs.Common.{not, refl, sym, ap, ◌∙◌}
use Rattle.reg_report.specs.Seen.{row_seen}
use Rattle.reg_report.specs.Keys.{key_bytes}
use Rattle.reg_disorder.proofs.KeyLemmas.{withdrawn_is, live_is_not}
use Rattle.reg_disorder.proofs.withdrawn.is_withdrawn.Goals as goal

pub returns-then-not-is_retired : goal.returns-then-not-is_retired
returns-then-not-is_retired c = λ rs has there. live_is_not rs (row_seen c.args.row.now) (key_bytes c.key_of-key.result) _ refl (sym c.is_retired.ensures ∙ c.if-not-is_retired.true) c.key_of-key.ensures there

pub returns : goal.returns
returns c = λ rs has there. withdrawn_is rs c.args.live.now (row_seen c.args.row.now) (key_bytes c.key_of-key.result) (not c.contains.result) has c.key_of-key.ensures (ap not c.contains.ensures)
