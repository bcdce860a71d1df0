use Rattle.reg_export.proofs.NameLemmas.{authority_read, code_read}
use Rattle.reg_export.proofs.laws.names_are_read_back.Goals as goal

pub returns : goal.returns
returns c = record { authority = authority_read; code = code_read }
