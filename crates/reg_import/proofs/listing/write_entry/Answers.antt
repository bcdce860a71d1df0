use Rattle.std.proofs.Common.{[], ◌∷◌, ◌∙◌}
use Rattle.reg_import.proofs.listing.write_entry.Goals as goal

pub returns : goal.returns
returns c = (
  [] ∷ [] ∷ c.args.action.now ∷ c.deref.result.now ∷ c.as_bytes.result.now ∷ c.as_bytes-2.result.now ∷ c.as_bytes-3.result.now ∷ [] ∷ [],
  record {
    key = c.key-key.result.now;
    crs = c.name-name.ensures.0;
    keyed = c.key-key.ensures;
    spelled = c.name-name.ensures.1;
    are = λ k.
        [] ∷ [] ∷ c.args.action.now
        ∷ (c.deref.ensures.value ∙ c.in_ok-entry.ensures) k
        ∷ c.as_bytes.ensures k
        ∷ c.as_bytes-2.ensures k
        ∷ (c.as_bytes-3.ensures ∙ c.name-name.ensures.2) k
        ∷ [] ∷ [];
  },
  c.in_ok-write_fields.ensures,
)
