use Rattle.html_page.proofs.JoinLemmas.{next}
use Rattle.reg_page.proofs.missing.push_gap.Goals as goal

pub returns : goal.returns
returns c = next c.in_ok-push_replica.ensures c.in_ok-push_gap_counts.ensures
