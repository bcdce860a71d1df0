use Rattle.std.proofs.Common.{[], ◌∷◌, ap, ◌∙◌, subst}
use Rattle.reg_report.specs.Lines.{WritesRow}
use Rattle.reg_texts.specs.KeyFields.{SideTexts, area_in, box_in, sides_of}
use Rattle.reg_texts.proofs.key_fields.write_line.Goals as goal

pub returns : goal.returns
returns c =
    let us = c.usages_of-usages.ensures in
    let sides = c.in_ok-sides.ensures ∙ ap (λ u. sides_of (box_in u)) us in
    subst (WritesRow c.args.wtr.now c.write_fields.new.wtr) (λ k.
    c.authority_of.ensures k
    ∷ c.code_of.ensures k
    ∷ (c.as_bytes.ensures ∙ ap (λ t. t.bytes) c.name.ensures) k
    ∷ c.kind_word.ensures k
    ∷ (c.area_in.ensures ∙ ap area_in us) k
    ∷ (c.deref.ensures.value ∙ ap (λ (s : SideTexts). s.south) sides) k
    ∷ (c.deref-2.ensures.value ∙ ap (λ (s : SideTexts). s.west) sides) k
    ∷ (c.deref-3.ensures.value ∙ ap (λ (s : SideTexts). s.north) sides) k
    ∷ (c.deref-4.ensures.value ∙ ap (λ (s : SideTexts). s.east) sides) k
    ∷ c.status_word.ensures k
    ∷ c.replaced_by.ensures _ (c.deref-5.ensures.value ∙ c.in_ok-keys.ensures) k
    ∷ [])
    c.in_ok-write_fields.ensures
