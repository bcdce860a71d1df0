use Rattle.std.proofs.Common.{length, ap, sym, ◌∙◌, arith}
use Rattle.std.proofs.lemmas.Bool.Decides.{nat_tests}
use Rattle.std.proofs.lemmas.List.{nil_from_length}
use Rattle.reg_texts.proofs.version.is_none.Goals as goal

pub returns-clause-none : goal.returns-clause-none
returns-clause-none g c = λ h. nil_from_length c.args.items.now (let e = sym c.is_empty.ensures ∙ h in grind (arith, nat_tests))

pub returns-clause-some : goal.returns-clause-some
returns-clause-some g c = λ h e. let f = ap length e in let g = sym c.is_empty.ensures ∙ h in grind (arith, nat_tests)
