use Rattle.std.proofs.Common.{◌∙◌, sym}
use Rattle.std.proofs.lemmas.Str.{IsUtf8-from_ascii, is_utf8-from_IsUtf8}
use Rattle.crs_part.proofs.Texts.{tests_utf8}
use Rattle.wkt_canonical.proofs.ends.is_utf8.Goals as goal

pub returns-then-is_ascii : goal.returns-then-is_ascii
returns-then-is_ascii c = sym (is_utf8-from_IsUtf8 c.args.bytes.now (IsUtf8-from_ascii c.args.bytes.now c.if-is_ascii.ensures.cases))

pub returns : goal.returns
returns c = c.is_ok.ensures.value ∙ tests_utf8 _ _ c.from_utf8.result c.args.bytes.now c.from_utf8.ensures.cases
