use Rattle.std.proofs.Common.{◌+◌, refl}
use Rattle.std.proofs.lemmas.List.{take_rest}
use Rattle.wkt_canonical.proofs.Texts.{text_of_content, text_read}
use Rattle.wkt_canonical.proofs.leaves.text.Goals as goal

pub returns : goal.returns
returns c = text_of_content (text_read c.in_ok-mark.mark c.in_ok-inside.ensures c.in_ok-mark.ensures refl (take_rest c.in_ok-inside.inside.now (c.in_ok-mark.mark + 1)))
