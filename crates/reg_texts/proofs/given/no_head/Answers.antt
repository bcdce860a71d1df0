use Rattle.std.proofs.Common.{codes, ◌++◌, ap, ◌∙◌}
use Rattle.reg_report.specs.Keys.{key_bytes}
use Rattle.reg_texts.specs.Listing.{key_text}
use Rattle.reg_texts.proofs.given.no_head.Goals as goal

pub returns : goal.returns
returns c =
    let key = key_bytes c.key_in.result in (
      key,
      c.key_in.ensures,
      c.in_ok-extend_from_slice.ensures.items ∙ ap (λ l. l ++ codes " none") (c.in_ok-push_key.ensures ∙ ap (λ l. l ++ key_text key) c.new-head.ensures.items),
    )
