use Rattle.reg_office.proofs.LawLemmas.{is_greatest, bodies_are, notes_are, numbers_are, are_unseen, are_once, they_join}
use Rattle.reg_office.proofs.laws.numbers_are_new.Goals as goal

pub returns : goal.returns
returns c = record { greatest = is_greatest; bodies = bodies_are; notes = notes_are; numbers = numbers_are; unseen = are_unseen; once = are_once; joined = they_join }
