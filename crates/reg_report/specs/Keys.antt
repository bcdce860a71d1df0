-- Keys as the program holds them.
use Rattle.std.specs.declared.cmp.Ordering.{Ordering}
use Rattle.reg_report.specs.Conflicts.{KeyBytes, key_cmp}
use Rattle.reg_report.specs.declared.key.KeyText.{KeyText}

abbrev pub key_bytes : KeyText → KeyBytes
key_bytes k = record { authority = k.authority.now; code = k.code.now }

abbrev pub text_cmp : KeyText → KeyText → Ordering
text_cmp a b = key_cmp (key_bytes a) (key_bytes b)
