use Rattle.std.proofs.Common.{ap, ◌∙◌}
use Rattle.crs_value.specs.declared.key.Key.{Key}
use Rattle.html_page.specs.Shown.{Entered}
use Rattle.html_page.specs.Templates.{link}
use Rattle.reg_op.specs.Text.{printed}
use Rattle.reg_page.specs.Page.{named}
use Rattle.reg_page.proofs.LoopLemmas.{as_others}
use Rattle.reg_page.proofs.links.push_known.Goals as goal

pub returns : goal.returns
returns c =
    let t = c.args.one.now in
    as_others _ (link (named c.args.names.now) (Entered (printed t.id) t.key.authority.bytes t.key.code.bytes)) (λ j. link (named c.args.names.now) (Entered ((c.deref.ensures.value ∙ c.in_ok-id.ensures) j) ((c.as_bytes.ensures ∙ ap (λ (k : Key). k.authority.bytes) c.get-key.ensures) j) ((c.as_bytes-2.ensures ∙ ap (λ (k : Key). k.code.bytes) c.get-key.ensures) j))) c.in_ok-push_link.ensures
