use Rattle.reg_desk.proofs.LoggedLemmas.{log_is, no_log_is}
use Rattle.reg_desk.proofs.laws.a_log_of_words_is_that_of_their_entries.Goals as goal

pub returns : goal.returns
returns c = record { logs = log_is; refuses = no_log_is }
