use Rattle.std.proofs.Common.{[], ◌∷◌, ap, ◌∙◌}
use Rattle.reg_op.specs.Text.{printed}
use Rattle.reg_query.specs.LogLines.{effect_word, newer_text}
use Rattle.reg_query.proofs.log.lines.write_entered.Goals as goal

pub returns : goal.returns
returns c = (
  c.deref.result.now ∷ c.as_bytes.result.now ∷ c.as_bytes-2.result.now ∷ c.as_bytes-3.result.now ∷ c.deref-2.result.now ∷ c.deref-3.result.now ∷ c.deref-4.result.now ∷ c.as_bytes-note.result.now ∷ [],
  record {
    key = c.key-key.result.now;
    crs = c.name-name.ensures.0;
    keyed = c.key-key.ensures;
    spelled = c.name-name.ensures.1;
    are = λ k.
        (c.deref.ensures.value ∙ c.in_ok-entry.ensures ∙ ap printed c.subject.ensures) k
        ∷ c.as_bytes.ensures k
        ∷ c.as_bytes-2.ensures k
        ∷ (c.as_bytes-3.ensures ∙ c.name-name.ensures.2) k
        ∷ (c.deref-2.ensures.value ∙ c.in_ok-id.ensures ∙ ap printed c.id.ensures.value) k
        ∷ (c.deref-3.ensures.value ∙ c.in_ok-effect.ensures ∙ ap effect_word c.body.ensures) k
        ∷ (c.deref-4.ensures.value ∙ c.in_ok-newer.ensures ∙ ap newer_text c.body-2.ensures) k
        ∷ (c.as_bytes-note.ensures.bytes ∙ c.note.ensures) k
        ∷ [];
  },
  c.in_ok-write_fields.ensures,
)
