use Rattle.std.proofs.Common.{subst}
use Rattle.reg_keys.specs.Named.{IsObjection}
use Rattle.reg_commands.proofs.MeaningLemmas.{no_entry_there, several_there}
use Rattle.reg_commands.proofs.words.meaning.every_read.Goals as goal

pub returns-in-Err-NoEntry-clause-fault : goal.returns-in-Err-NoEntry-clause-fault
returns-in-Err-NoEntry-clause-fault c = λ xs is. no_entry_there xs c.args.word.now (subst (IsObjection xs c.args.word.now) c.in-Err-NoEntry.field-0-is (c.in-Err-NoEntry.ensures.fault xs is))

pub returns-in-Err-Several-clause-fault : goal.returns-in-Err-Several-clause-fault
returns-in-Err-Several-clause-fault c = λ xs is. several_there xs c.args.word.now c.in-Err-Several.field-0-0 (subst (IsObjection xs c.args.word.now) c.in-Err-Several.field-0-is (c.in-Err-Several.ensures.fault xs is))
