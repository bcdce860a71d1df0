use Rattle.std.proofs.Common.{inl}
use Rattle.reg_commands.proofs.MeaningLemmas.{after_entry, after_none}
use Rattle.reg_commands.proofs.words.meaning.entry_meant.Goals as goal

pub returns-in-Ok-clause-ok : goal.returns-in-Ok-clause-ok
returns-in-Ok-clause-ok c = λ xs zs was now. inl (c.in-Ok.ensures.ok zs now)

pub returns-in-Ok-entry_after-clause-ok : goal.returns-in-Ok-entry_after-clause-ok
returns-in-Ok-entry_after-clause-ok c = λ xs zs was now.
    after_entry xs zs c.args.word.now c.in-Err.fault c.in-Ok-entry_after.id (c.in-Err.ensures.fault zs now) (c.in-Ok-entry_after.ensures.ok xs was)

pub returns-in-Err-entry_after-clause-fault : goal.returns-in-Err-entry_after-clause-fault
returns-in-Err-entry_after-clause-fault c = λ xs zs was now.
    after_none xs zs c.args.word.now c.in-Err.fault c.in-Err-entry_after.why (c.in-Err.ensures.fault zs now) (c.in-Err-entry_after.ensures.fault xs was)
