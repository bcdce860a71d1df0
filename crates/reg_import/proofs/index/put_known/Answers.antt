use Rattle.std.proofs.Common.{ap}
use Rattle.reg_report.specs.Conflicts.{bytes_of}
use Rattle.reg_import.specs.Index.{nothing_there, key_bytes}
use Rattle.reg_import.specs.Known.{with_key}
use Rattle.reg_import.proofs.StepLemmas.{entry_put}
use Rattle.reg_import.proofs.index.put_known.Goals as goal

pub returns : goal.returns
returns c = λ at i.
    entry_put c.in_ok-key.key c.take-before.result c.in_ok-entries.entries c.args.entry c.put.new.index at (ap bytes_of c.in_ok-key.ensures) (c.take-before.ensures.found at i)
    (λ j. record { known = c.in_ok-entries.ensures.known j; ours = c.in_ok-entries.ensures.ours j })
    (c.in_ok-put.ensures (with_key (key_bytes c.in_ok-key.key) nothing_there at) (c.take-before.ensures.rest at i))
