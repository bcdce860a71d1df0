use Rattle.reg_page.proofs.NeighbourLemmas.{are_paired, is_paired}
use Rattle.reg_page.proofs.laws.contested_entries_are_in_pairs.Goals as goal

pub returns : goal.returns
returns c = record { pairs = are_paired; each = is_paired }
