use Rattle.std.proofs.Common.{◌++◌, List, map, inr, sym, ap, ◌∙◌}
use Rattle.reg_op.specs.Ids.{is_same}
use Rattle.reg_disorder.specs.declared.link.OlderLink.{OlderLink}
use Rattle.reg_disorder.specs.Heirs.{has_id}
use Rattle.reg_disorder.proofs.TextLemmas.{cond_or}
use Rattle.std.proofs.lemmas.Bool.{not-true}
use Rattle.reg_disorder.proofs.heir.visit.Goals as goal

pub returns : goal.returns
returns c = inr (
  not-true _ (sym c.in_ok-is_new.ensures.added ∙ c.if-not-is_new.false),
  c.in_ok-push_old.ensures ∙ ap (λ (l : List OlderLink). c.args.todo.now.items ++ map (λ (x : OlderLink). x.old) l) c.links_by.ensures,
  λ e. c.in_ok-is_new.ensures.updates.0 e ∙ cond_or (is_same c.args.id e) (has_id c.args.found.now e),
)
