use Rattle.std.proofs.Common.{refl, ap, ◌∙◌, sym}
use Rattle.std.specs.Str.{is_utf8}
use Rattle.std.proofs.lemmas.Option.{none-some}
use Rattle.crs_part.specs.declared.text.Text.{Text}
use Rattle.wkt_crs.proofs.definition.text_of.Goals as goal

pub unreachable-requires : goal.unreachable-requires
unreachable-requires c =
    let copied = c.in_ok-copied.ensures in
    let text : Text = record { bytes = c.in_ok-copied.field-0; utf8 = ap is_utf8 copied ∙ c.requires } in
    none-some text (sym c.in-None.is ∙ c.from_utf8.ensures.only text refl)
