use Rattle.wkt_crs.proofs.Recognized as recognized
use Rattle.wkt_crs.proofs.definition.seen_in_block.Goals as goal

pub returns-in_default-clause-fault : goal.returns-in_default-clause-fault
returns-in_default-clause-fault c =
    (recognized.crs_seen c.requires.1, recognized.seen_spells c.requires.1 c.requires.0, recognized.has_none c.requires.1 c.in_default.is)
