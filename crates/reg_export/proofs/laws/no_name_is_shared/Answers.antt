use Rattle.reg_export.proofs.NameLemmas.{not_shared}
use Rattle.reg_export.proofs.laws.no_name_is_shared.Goals as goal

pub returns : goal.returns
returns c = not_shared
