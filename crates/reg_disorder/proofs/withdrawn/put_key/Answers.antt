use Rattle.std.proofs.Common.{◌∙◌}
use Rattle.std.specs.Ordering.{is_eq}
use Rattle.reg_report.specs.Conflicts.{key_cmp}
use Rattle.reg_report.specs.Keys.{key_bytes}
use Rattle.reg_disorder.specs.Keys.{has_key}
use Rattle.reg_disorder.proofs.TextLemmas.{as_key, cond_or}
use Rattle.reg_disorder.proofs.withdrawn.put_key.Goals as goal

pub returns : goal.returns
returns c = λ k. c.in_ok-insert.ensures.updates.0 (record { authority = as_key k.authority; code = as_key k.code }) ∙ cond_or (is_eq (key_cmp (key_bytes c.args.key) k)) (has_key c.args.live.now k)
