use Rattle.wkt_explain.proofs.WantedLemmas.{appended}
use Rattle.wkt_explain.proofs.wanted.push_each.Goals as goal

pub returns : goal.returns
returns c = appended _ _ _ _ _ _ _ _ c.in_ok-extend_from_slice.ensures.items c.taken.ensures c.in_ok-extend_from_slice-2.ensures.items c.in_ok-push_slots.ensures
