use Rattle.std.proofs.Common.{map}
use Rattle.reg_report.specs.Seen.{row_seen}
use Rattle.reg_keys.proofs.NamedLemmas.{no_id}
use Rattle.reg_keys.proofs.EveryLemmas.{stands_every}
use Rattle.reg_keys.proofs.every.every_of.Goals as goal

pub returns-in-Ok-entries_answering-clause-ok : goal.returns-in-Ok-entries_answering-clause-ok
returns-in-Ok-entries_answering-clause-ok c =
    stands_every (map row_seen c.args.rows.now) c.args.word.now c.in-Ok-entry_of.least c.in-Ok-entries_answering.ids.items
    (no_id c.args.word.now c.in_default.ensures.only) c.in-Ok-entry_of.ensures.ok c.in-Ok-entries_answering.ensures
