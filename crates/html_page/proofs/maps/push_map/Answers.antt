use Rattle.html_page.proofs.JoinLemmas.{next}
use Rattle.html_page.proofs.maps.push_map.Goals as goal

pub returns : goal.returns
returns c = next (next c.in_ok-push_mark.ensures c.in_ok-push_drawing.ensures) c.in_ok-push_caption.ensures
