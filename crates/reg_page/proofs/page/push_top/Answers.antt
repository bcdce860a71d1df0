use Rattle.html_page.proofs.JoinLemmas.{next}
use Rattle.reg_page.proofs.page.push_top.Goals as goal

pub returns : goal.returns
returns c = next (next c.in_ok-push_head.ensures c.in_ok-push_figures.ensures) c.in_ok-push_mark.ensures
