use Rattle.crs_number.proofs.CountLemmas.{count_from, count_to, count_once, decimal_spells, decimal_is_count}
use Rattle.crs_number.proofs.counts.count_laws.Goals as goal

pub returns-clause-sound : goal.returns-clause-sound
returns-clause-sound c = count_from

pub returns-clause-complete : goal.returns-clause-complete
returns-clause-complete c = count_to

pub returns-clause-once : goal.returns-clause-once
returns-clause-once c = count_once

pub returns-clause-spelled : goal.returns-clause-spelled
returns-clause-spelled c = decimal_spells

pub returns-clause-passes : goal.returns-clause-passes
returns-clause-passes c = decimal_is_count
