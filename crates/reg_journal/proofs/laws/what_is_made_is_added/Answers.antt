use Rattle.reg_journal.proofs.JoiningLemmas.{honest_joins}
use Rattle.reg_journal.proofs.MadeLemmas.{next_number, added_is_made, added_last}
use Rattle.reg_journal.proofs.laws.what_is_made_is_added.Goals as goal

pub returns : goal.returns
returns c = record {
  joins = honest_joins;
  next = λ f x y office content honest j. next_number f x y office content honest j;
  added = λ f x y z note effects os office content honest j e k. (
    added_is_made f x y office content honest j note effects os z e k,
    added_last f x y office content honest j note effects os z e k,
  );
}
