use Rattle.std.proofs.Common.{inl}
use Rattle.reg_commands.proofs.MeaningLemmas.{after_every, after_none}
use Rattle.reg_commands.proofs.words.meaning.every_meant.Goals as goal

pub returns-in-Ok-clause-ok : goal.returns-in-Ok-clause-ok
returns-in-Ok-clause-ok c = λ xs zs was now. inl (c.in-Ok.ensures.ok zs now)

pub returns-in-Ok-every_after-clause-ok : goal.returns-in-Ok-every_after-clause-ok
returns-in-Ok-every_after-clause-ok c = λ xs zs was now.
    after_every xs zs c.args.word.now c.in-Err.fault c.in-Ok-every_after.ids.items (c.in-Err.ensures.fault zs now) (c.in-Ok-every_after.ensures.ok xs was)

pub returns-in-Err-every_after-clause-fault : goal.returns-in-Err-every_after-clause-fault
returns-in-Err-every_after-clause-fault c = λ xs zs was now.
    after_none xs zs c.args.word.now c.in-Err.fault c.in-Err-every_after.why (c.in-Err.ensures.fault zs now) (c.in-Err-every_after.ensures.fault xs was)
