use Rattle.html_page.proofs.JoinLemmas.{next}
use Rattle.reg_page.proofs.conflicts.push_sides.Goals as goal

pub returns : goal.returns
returns c = next (next (next c.in_ok-push_mark.ensures c.in_ok-push_side.ensures) c.in_ok-push_side-2.ensures) c.in_ok-push_mark-2.ensures
