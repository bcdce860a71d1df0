use Rattle.std.proofs.Common.{◌∙◌}
use Rattle.reg_import.proofs.ListedLemmas.{none_listed, no_keys}
use Rattle.reg_import.proofs.listing.ImportLines.new.Goals as goal

pub returns : goal.returns
returns c = λ l. none_listed l _ (c.in_ok-packed.ensures ∙ c.in_ok-header.ensures) c.new-texts.ensures.items c.new-told.ensures.items (no_keys l.gone c.new-keys.result c.new-keys.ensures.empty)
