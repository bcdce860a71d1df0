use Rattle.std.proofs.Common.{sym}
use Rattle.std.proofs.lemmas.List.{length-map}
use Rattle.reg_disorder.specs.Lists.{listed_seen}
use Rattle.reg_disorder.specs.declared.disorder.Disorder.TheVariants.{Duplicates, Withdrawn}
use Rattle.reg_disorder.proofs.AmissLemmas.{keys_of_listed}
use Rattle.reg_disorder.proofs.listing.how_many.Goals as goal

pub returns-in-Duplicates : goal.returns-in-Duplicates
returns-in-Duplicates c = rw c.in-Duplicates.is (λ rs are. keys_of_listed Duplicates rs c.args.listed.now c.count_keys.result c.count_keys.ensures are)

pub returns-in-Dangling : goal.returns-in-Dangling
returns-in-Dangling c = rw c.in-Dangling.is (λ rs are. sym (length-map c.args.listed.now listed_seen))

pub returns-in-Withdrawn : goal.returns-in-Withdrawn
returns-in-Withdrawn c = rw c.in-Withdrawn.is (λ rs are. keys_of_listed Withdrawn rs c.args.listed.now c.count_keys-in-Withdrawn.result c.count_keys-in-Withdrawn.ensures are)
