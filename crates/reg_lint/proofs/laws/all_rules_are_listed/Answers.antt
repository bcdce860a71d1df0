use Rattle.std.proofs.Common.{refl}
use Rattle.reg_lint.proofs.RuleLemmas.{each}
use Rattle.reg_lint.proofs.laws.all_rules_are_listed.Goals as goal

pub returns-clause-listed : goal.returns-clause-listed
returns-clause-listed c = refl

pub returns-clause-each : goal.returns-clause-each
returns-clause-each c = each

pub returns-clause-by_name : goal.returns-clause-by_name
returns-clause-by_name c = refl
