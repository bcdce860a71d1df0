use Rattle.std.proofs.Common.{ℕ, List, [], ◌∷◌, ap, ◌∙◌}
use Rattle.reg_report.specs.Lines.{spaced}
use Rattle.reg_query.proofs.diff.lines.write_row.Goals as goal

pub returns : goal.returns
returns c =
    let rest : List (List ℕ) = c.deref-2.result.now ∷ c.as_bytes.result.now ∷ c.as_bytes-2.result.now ∷ c.as_bytes-3.result.now ∷ c.status_word.result.now ∷ c.deref-3.result.now ∷ [] in (
      c.sign_text.result.now ∷ rest,
      (
        rest,
        record {
          key = c.key-key.result.now;
          crs = c.name-name.ensures.0;
          keyed = c.key-key.ensures;
          spelled = c.name-name.ensures.1;
          are = λ k.
              (c.deref-2.ensures.value ∙ c.in_ok-entry.ensures) k
              ∷ c.as_bytes.ensures k
              ∷ c.as_bytes-2.ensures k
              ∷ (c.as_bytes-3.ensures ∙ c.name-name.ensures.2) k
              ∷ c.status_word.ensures k
              ∷ (c.deref-3.ensures.value ∙ c.in_ok-newer.ensures ∙ ap spaced c.deref.ensures.value) k
              ∷ [];
        },
        ap (λ t. t ∷ rest) c.sign_text.ensures,
      ),
      c.in_ok-write_fields.ensures,
    )
