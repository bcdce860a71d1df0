use Rattle.reg_texts.proofs.choice.answers.Goals as goal

pub returns-then-has_key : goal.returns-then-has_key
returns-then-has_key c = (λ h. (c.has_key.ensures.0 c.if-has_key.true, c.is_live.ensures.0 h), λ (has, live). c.is_live.ensures.1 live)
