use Rattle.std.proofs.Common.{◌∙◌}
use Rattle.html_page.specs.Templates.{same_text}
use Rattle.reg_op.specs.Text.{printed}
use Rattle.reg_page.specs.Page.{named}
use Rattle.reg_page.proofs.LoopLemmas.{as_others}
use Rattle.reg_page.proofs.entries.push_link_to_text.Goals as goal

pub returns : goal.returns
returns c =
    let id = printed c.args.same in
    as_others _ (same_text id (named c.args.names.now id)) (λ j. same_text ((c.deref.ensures.value ∙ c.in_ok-id.ensures) j) ((c.deref-2.ensures.value ∙ c.in_ok-read.ensures) j)) c.in_ok-push_same_text.ensures
