use Rattle.std.proofs.Common.{ap, ◌∙◌}
use Rattle.html_page.specs.Shown.{Awaited}
use Rattle.html_page.specs.Templates.{link, link_awaited}
use Rattle.reg_op.specs.Text.{printed}
use Rattle.reg_page.specs.Page.{named}
use Rattle.reg_page.proofs.LoopLemmas.{as_others}
use Rattle.reg_page.proofs.links.push_unknown.Goals as goal

pub returns : goal.returns
returns c = as_others _ (link (named c.args.names.now) (Awaited (printed c.args.id))) (ap link_awaited (c.deref.ensures.value ∙ c.in_ok-read.ensures)) c.in_ok-push_awaited_link.ensures
