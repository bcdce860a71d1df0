use Rattle.reg_commands.proofs.words.meaning.entry_after.Goals as goal

pub returns-in-Ok-clause-ok : goal.returns-in-Ok-clause-ok
returns-in-Ok-clause-ok c = λ xs is. (c.in-NoEntry.is, c.in-Ok.ensures.ok xs is)
