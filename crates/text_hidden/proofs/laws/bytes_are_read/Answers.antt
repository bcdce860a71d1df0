use Rattle.text_hidden.proofs.ByteLemmas.{read}
use Rattle.text_hidden.proofs.laws.bytes_are_read.Goals as goal

pub returns : goal.returns
returns c = λ d rest scalar. read d rest
