use Rattle.wkt_crs.proofs.Editions.{still_spells, spelled_before}
use Rattle.wkt_crs.proofs.laws.editions.Goals as goal

pub returns-clause-still : goal.returns-clause-still
returns-clause-still c = still_spells

pub returns-clause-before : goal.returns-clause-before
returns-clause-before c = spelled_before
