use Rattle.html_page.proofs.JoinLemmas.{next}
use Rattle.html_page.proofs.missing.push_gap_counts.Goals as goal

pub returns : goal.returns
returns c = next c.in_ok-push_number.ensures c.in_ok-push_number-2.ensures
