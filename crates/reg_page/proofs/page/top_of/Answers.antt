use Rattle.std.proofs.Common.{◌++◌, ap, ◌∙◌}
use Rattle.html_page.specs.Pieces.{html}
use Rattle.reg_page.specs.Parts.{top}
use Rattle.reg_page.proofs.page.top_of.Goals as goal

pub returns : goal.returns
returns c = c.in_ok-push_top.ensures.is ∙ ap (λ l. l ++ html (top c.args.title.now c.args.figures.now)) c.new-page.ensures.items
