use Rattle.std.proofs.Common.{refl, inl, inr, sym, ◌∙◌}
use Rattle.std.proofs.lemmas.Bool.{true≢false}
use Rattle.reg_export.proofs.graph.is_drawn.Goals as goal

pub returns-then-all : goal.returns-then-all
returns-then-all c = (λ _. inl c.if-all.true, λ _. refl)

pub returns : goal.returns
returns c = (
  λ t. inr (c.is_among.ensures.0 t),
  λ d. elim d [
    | inl e ↦ absurd (true≢false (sym e ∙ c.if-all.false))
    | inr h ↦ c.is_among.ensures.1 h
  ],
)
