use Rattle.std.proofs.Common.{◌≡◌, Some, refl, subst}
use Rattle.reg_texts.specs.Compare.{IsKeyCompared}
use Rattle.reg_texts.proofs.engines.compare.CompareKeyPrint.text.Goals as goal

pub returns-in-Ok-Some-clause-prints : goal.returns-in-Ok-Some-clause-prints
returns-in-Ok-Some-clause-prints c =
    let a = c.in-Ok-Some.field-0-is in
    let b = c.in-Ok-Some.text-is in
    let found : c.in-Ok-Some.field-0 ≡ Some c.in-Ok-Some.text = cc in
    (c.in-Ok-Some.text, subst (IsKeyCompared c.args.self.now.key.now c.args.register.now) found c.in-Ok-Some.ensures, refl)
