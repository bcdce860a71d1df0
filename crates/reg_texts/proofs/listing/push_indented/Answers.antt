use Rattle.std.proofs.Common.{◌++◌, ap, ◌∙◌}
use Rattle.reg_texts.proofs.listing.push_indented.Goals as goal

pub returns : goal.returns
returns c = (c.in-Ok.crs, c.in-Ok.ensures.found, c.in_ok-extend_from_slice.ensures.items ∙ ap (λ l. c.args.text.now.items ++ l) (c.deref.ensures.value ∙ c.in_ok-indented.ensures))
