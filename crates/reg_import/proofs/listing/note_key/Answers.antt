use Rattle.reg_import.proofs.ListedLemmas.{more_keys}
use Rattle.reg_import.proofs.listing.note_key.Goals as goal

pub returns-in_ok-put_key-in-Some : goal.returns-in_ok-put_key-in-Some
returns-in_ok-put_key-in-Some c = λ rs has. more_keys c.args.listing.now.gone _ rs c.args.reading.now c.args.keys.now c.put_key.new.keys c.in-Some.is has c.in_ok-put_key-in-Some.ensures
