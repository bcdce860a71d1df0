use Rattle.std.proofs.Common.{◌≡◌, ℕ, OnOk, List, [], ◌∷◌, ap, ◌∙◌, subst}
use Rattle.crs_part.specs.declared.text.Text.{Text}
use Rattle.crs_part.specs.Slots.{name_of}
use Rattle.reg_lint.specs.Known.{has_mark}
use Rattle.reg_lint.specs.Lines.{row_of, fields_in, Writes}
use Rattle.reg_lint.proofs.lines.write_told.Goals as goal

pub returns : goal.returns
returns c =
    let same : (c.deref.result.now ∷ c.deref-2.result.now ∷ c.authority_of.result.now ∷ c.deref-3.result.now ∷ c.as_bytes-2.result.now ∷ c.deref-4.result.now ∷ [])
    ≡ fields_in c.args.rule c.args.label.now c.args.crs.now.parts c.args.detail.now
    = λ k.
    (c.deref.ensures.value ∙ c.in_ok-rule.ensures ∙ c.as_bytes.ensures.value ∙ c.name.ensures) k
    ∷ (c.deref-2.ensures.value ∙ c.in_ok-label.ensures) k
    ∷ c.authority_of.ensures k
    ∷ (c.deref-3.ensures.value ∙ c.in_ok-code.ensures) k
    ∷ (c.as_bytes-2.ensures ∙ ap (λ (t : Text). t.bytes) (c.name-2.ensures ∙ ap name_of c.parts.ensures)) k
    ∷ (c.deref-4.ensures.value ∙ c.in_ok-detail.ensures) k
    ∷ [] in
    subst (λ (fs : List (List ℕ)). OnOk c.write_unless_known.result (Writes c.args.wtr.now c.write_unless_known.new.wtr (row_of (has_mark c.args.known.now) fs)))
    same c.write_unless_known.ensures
