use Rattle.reg_commands.proofs.KeyedLemmas.{make_is, cannot_is}
use Rattle.reg_commands.proofs.laws.words_are_their_entries.Goals as goal

pub returns-clause-makes : goal.returns-clause-makes
returns-clause-makes g c = λ every each x z y es fs lines mean. make_is every each x z es fs mean (g.C.ChangeOf.makes c.args.command.now) y lines

pub returns-clause-refuses : goal.returns-clause-refuses
returns-clause-refuses g c = λ every each x z es fs fault mean. cannot_is every each x z es fs mean (g.C.ChangeOf.refuses c.args.command.now) fault
