use Rattle.std.proofs.Common.{◌∙◌}
use Rattle.reg_tree.proofs.OfficeLemmas.{all_listed}
use Rattle.reg_tree.proofs.offices.theirs.from_register.Goals as goal

pub returns : goal.returns
returns c = all_listed c.args.offices.now c.args.register.now.ops c.as_slice.result.now c.register_of.result (c.as_slice.ensures ∙ c.ops.ensures.items) c.register_of.ensures
