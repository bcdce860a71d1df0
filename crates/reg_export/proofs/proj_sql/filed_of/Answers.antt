use Rattle.std.proofs.Common.{sym}
use Rattle.reg_export.proofs.proj_sql.filed_of.Goals as goal

pub returns : goal.returns
returns c = record {
  entry = c.in_ok-entry.ensures;
  keyed = (c.key-key.result.now, c.key-key.ensures, λ j. record { authority = sym c.as_bytes-2.ensures j; code = sym c.as_bytes-code.ensures j });
  name = c.name-name.result.now;
  is_name = c.name-name.ensures;
  named = c.as_bytes.ensures;
  text = c.as_bytes-3.ensures.bytes;
  number = c.number_of.ensures;
  taken = c.in_ok-taken.ensures;
}
