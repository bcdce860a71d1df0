use Rattle.std.proofs.Common.{None, Some}
use Rattle.reg_report.specs.Seen.{row_seen}
use Rattle.reg_disorder.specs.LinkHeirs.{rows_in}
use Rattle.reg_disorder.proofs.Firsts.{text_found}
use Rattle.reg_disorder.proofs.linking.heir.text_heir.Goals as goal

pub returns-in-Some : goal.returns-in-Some
returns-in-Some c =
    text_found c.args.heirs.now.texts (rows_in c.args.heirs.now) c.as_bytes-text.result (row_seen c.args.row.now).definition (Some c.in-Some.row.now) c.requires.texts c.in-Some.ensures.value c.as_bytes-text.ensures.bytes

pub returns-in-None : goal.returns-in-None
returns-in-None c =
    text_found c.args.heirs.now.texts (rows_in c.args.heirs.now) c.as_bytes-text.result (row_seen c.args.row.now).definition None c.requires.texts c.in-None.ensures.value c.as_bytes-text.ensures.bytes
