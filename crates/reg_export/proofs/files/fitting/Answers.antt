use Rattle.std.proofs.Common.{not, map, ap, ◌∙◌, rules}
use Rattle.std.proofs.lemmas.Fn.{filter_same}
use Rattle.byte_folder.specs.declared.file.NamedFile.{NamedFile}
use Rattle.byte_folder.specs.Folder.{seen, is_long}
use Rattle.reg_export.proofs.FileLemmas.{kept_alike}
use Rattle.reg_export.proofs.files.fitting.Goals as goal

pub returns : goal.returns
returns c = ap (map seen) (filter_same _ (λ (f : NamedFile). not (is_long (seen f))) _ (λ x b f' k. search rules) _ _ c.retain.ensures.filtered) ∙ kept_alike c.args.files.items
