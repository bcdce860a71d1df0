use Rattle.std.proofs.Common.{None, Some}
use Rattle.reg_report.specs.Keys.{key_bytes}
use Rattle.reg_disorder.specs.LinkHeirs.{rows_in}
use Rattle.reg_disorder.proofs.Firsts.{key_found}
use Rattle.reg_disorder.proofs.linking.heir.key_heir.Goals as goal

pub returns-in-Some : goal.returns-in-Some
returns-in-Some c =
    (key_bytes c.key_of-key.result, c.key_of-key.ensures, key_found c.args.heirs.now.keys (rows_in c.args.heirs.now) c.key_of-key.result (Some c.in-Some.row.now) c.requires.keys c.in-Some.ensures.value)

pub returns-in-None : goal.returns-in-None
returns-in-None c =
    (key_bytes c.key_of-key.result, c.key_of-key.ensures, key_found c.args.heirs.now.keys (rows_in c.args.heirs.now) c.key_of-key.result None c.requires.keys c.in-None.ensures.value)
