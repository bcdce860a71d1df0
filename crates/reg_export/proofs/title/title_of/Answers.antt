use Rattle.std.proofs.Common.{sym}
use Rattle.reg_export.proofs.title.title_of.Goals as goal

pub returns : goal.returns
returns c = record {
  entry = c.requires;
  keyed = (c.key-key.result.now, c.key-key.ensures, λ j. record { authority = sym c.as_bytes.ensures j; code = sym c.as_bytes-2.ensures j });
  name = c.name-name.result.now;
  is_name = c.name-name.ensures;
  named = c.as_bytes-3.ensures;
  status = c.status_word.ensures;
}
