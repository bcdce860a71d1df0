use Rattle.html_page.proofs.pieces.push_pieces.Goals as goal

pub returns : goal.returns
returns c = record { is = c.in_ok-push_each.ensures }
