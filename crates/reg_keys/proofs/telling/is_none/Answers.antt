use Rattle.std.proofs.Common.{List, length, eqb, sym, ap, ◌∙◌}
use Rattle.std.proofs.lemmas.Bool.{eqb-true}
use Rattle.reg_op.specs.Ids.{Id}
use Rattle.reg_keys.proofs.ToldLemmas.{none_are}
use Rattle.reg_keys.proofs.telling.is_none.Goals as goal

pub returns : goal.returns
returns c = (
  λ h. none_are c.args.ids.now (eqb-true (length c.args.ids.now) 0 (sym c.is_empty.ensures ∙ h)),
  λ e. c.is_empty.ensures ∙ ap (λ (l : List Id). eqb (length l) 0) e,
)
