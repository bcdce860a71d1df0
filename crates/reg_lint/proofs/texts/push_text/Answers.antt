use Rattle.reg_lint.proofs.texts.push_text.Goals as goal
use Rattle.reg_lint.proofs.texts.push_text.Goals.{in-Ok-push, in-Err-push}

pub returns-clause-ok : goal.returns-clause-ok
returns-clause-ok c = elim c.match-push.branch [
  | in-Ok-push w ↦ rw w.result-is (c.in-Ok.one, c.in-Ok.ensures.ok, w.in-Ok-push.ensures.items)
  | in-Err-push w ↦ rw w.result-is tt
]
