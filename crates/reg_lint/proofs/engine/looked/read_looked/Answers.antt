use Rattle.std.proofs.Common.{rules, ◌≡◌, ℕ, Bool, true, List, subst}
use Rattle.reg_lint.specs.EngineLooked.{HasHeader}
use Rattle.reg_lint.proofs.engine.looked.read_looked.Goals as goal

pub returns-clause-headed : goal.returns-clause-headed
returns-clause-headed g c =
    let yes : c.in-Ok-has_header.is_headed ≡ true = search rules in
    subst (λ (bytes : List ℕ). HasHeader bytes true) c.deref.ensures.value (subst (λ (is : Bool). HasHeader c.deref.result.now is) yes c.in-Ok-has_header.ensures)
