use Rattle.std.proofs.Common.{◌++◌, ap, sym, ◌∙◌, subst}
use Rattle.reg_texts.specs.Compare.{IsPair}
use Rattle.reg_texts.proofs.compare.pair_text.Goals as goal

pub returns : goal.returns
returns c =
    let one = c.in_ok-first.first in
    let other = c.in_ok-second.second in
    let pair = c.in_ok-push_pair.ensures in
    (one, other, c.in_ok-first.ensures, c.in_ok-second.ensures, subst (IsPair one other) (sym (pair.2 ∙ ap (λ l. l ++ pair.0) c.new-text.ensures.items)) pair.1)
