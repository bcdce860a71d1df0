use Rattle.reg_export.proofs.FileLemmas.{names_ascend}
use Rattle.reg_export.proofs.laws.no_name_has_two_texts.Goals as goal

pub returns : goal.returns
returns c = names_ascend
