use Rattle.reg_export.proofs.LabelLemmas.{no_label}
use Rattle.reg_export.proofs.laws.ids_without_names.Goals as goal

pub returns : goal.returns
returns c = no_label c.nothing_is_named.ensures
