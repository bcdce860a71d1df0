use Rattle.html_page.proofs.JoinLemmas.{next}
use Rattle.reg_page.proofs.entries.push_link_by.Goals as goal

pub returns : goal.returns
returns c = next (next c.in_ok-push_mark.ensures c.in_ok-push_link_to.ensures) c.in_ok-push_mark-2.ensures
