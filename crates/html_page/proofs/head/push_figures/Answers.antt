use Rattle.html_page.proofs.JoinLemmas.{next}
use Rattle.html_page.proofs.head.push_figures.Goals as goal

pub returns : goal.returns
returns c =
    next (next (next (next (next (next (next c.in_ok-push_number.ensures c.in_ok-push_number-2.ensures) c.in_ok-push_number-3.ensures) c.in_ok-push_number-4.ensures)
    c.in_ok-push_number-5.ensures) c.in_ok-push_number-6.ensures) c.in_ok-push_number-7.ensures) c.in_ok-push_number-8.ensures
