use Rattle.reg_commands.proofs.KeyedLemmas.{print_is, refuse_is}
use Rattle.reg_commands.proofs.laws.a_word_is_its_entry.Goals as goal

pub returns-clause-prints : goal.returns-clause-prints
returns-clause-prints g c = print_is (g.C.PrintOf.prints c.args.command.now)

pub returns-clause-refuses : goal.returns-clause-refuses
returns-clause-refuses g c = refuse_is (g.C.PrintOf.refuses c.args.command.now)
