use Rattle.std.proofs.Common.{◌≡◌, true, Option, Some, None, IfSome, is_some, sym, ap, IsTrue, ◌↔◌, subst}
use Rattle.std.proofs.lemmas.Bool.{true≢false}
use Rattle.reg_op.specs.Ids.{Id}
use Rattle.reg_op.specs.Text.{Spells}
use Rattle.reg_op.proofs.op_id.OpId.is_id.Goals as goal

told : (S : Id → Type 0) (o : Option Id) → IfSome o S → ((i : Id) → S i → o ≡ Some i) → IsTrue (is_some o) ↔ ((i : Id) × S i)
told S None found only = (λ h. absurd (true≢false (sym h)), λ p. ap is_some (only p.0 p.1))
told S (Some i) found only = (λ h. (i, found), λ p. λ k. true)

pub returns : goal.returns
returns c = subst (λ b. IsTrue b ↔ ((i : Id) × Spells c.args.text.now i)) (sym c.is_some.ensures) (told (Spells c.args.text.now) c.parse.result c.parse.ensures.found c.parse.ensures.only)
