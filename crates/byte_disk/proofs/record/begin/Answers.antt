use Rattle.std.proofs.Common.{rules, ◌≡◌, ◌++◌, ◌∷◌, [], refl}
use Rattle.byte_disk.specs.declared.span.Past.{Past}
use Rattle.byte_disk.proofs.record.begin.Goals as goal

pub returns-clause-ok : goal.returns-clause-ok
returns-clause-ok c =
    let ended : Past = record { span = c.replace-span_before.result; last = c.args.last } in
    let added : c.push.new.self.items ≡ c.args.past.now.items ++ ended ∷ [] = search rules in
    record { ended = ended; span = search rules; when = refl; added = added; new_base = search rules; new_writes = search rules }
