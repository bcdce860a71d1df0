use Rattle.reg_export.proofs.FileLemmas.{one_file_alike}
use Rattle.reg_export.proofs.laws.no_names_differ_by_case_alone.Goals as goal

pub returns : goal.returns
returns c = λ ts fs bytes. one_file_alike ts bytes fs
