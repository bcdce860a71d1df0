use Rattle.reg_disorder.proofs.listing.listed_of.Goals as goal

pub returns-in-Duplicates : goal.returns-in-Duplicates
returns-in-Duplicates c = rw c.in-Duplicates.is c.duplicates.ensures

pub returns-in-Dangling : goal.returns-in-Dangling
returns-in-Dangling c = rw c.in-Dangling.is c.dangling.ensures

pub returns-in-Withdrawn : goal.returns-in-Withdrawn
returns-in-Withdrawn c = rw c.in-Withdrawn.is c.withdrawn.ensures
