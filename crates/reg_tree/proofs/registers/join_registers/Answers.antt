use Rattle.std.proofs.lemmas.Bool.{OnTrue_at}
use Rattle.reg_tree.proofs.Halves.{all_is}
use Rattle.reg_tree.proofs.registers.join_registers.Goals as goal

pub returns-in-Ok-clause-ok : goal.returns-in-Ok-clause-ok
returns-in-Ok-clause-ok c = all_is c.args.registers.now c.in-Ok.all (OnTrue_at c.in-Ok-true.field-0-test c.in-Ok-true.ensures) c.in-Ok.ensures
