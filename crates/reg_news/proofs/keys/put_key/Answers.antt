use Rattle.std.proofs.Common.{◌||◌, ap, ◌∙◌}
use Rattle.reg_report.specs.Keys.{key_bytes}
use Rattle.reg_disorder.specs.Keys.{has_key}
use Rattle.reg_disorder.proofs.TextLemmas.{cond_or}
use Rattle.reg_news.specs.Keys.{same_key}
use Rattle.reg_news.proofs.KeyLemmas.{as_key}
use Rattle.reg_news.proofs.keys.put_key.Goals as goal

pub returns : goal.returns
returns c = λ k.
    c.in_ok-insert.ensures.updates.0 (record { authority = as_key k.authority; code = as_key k.code }) ∙ cond_or (same_key (key_bytes c.text_of.result) k) (has_key c.args.known.now k)
    ∙ ap (λ b. same_key b k || has_key c.args.known.now k) c.text_of.ensures
