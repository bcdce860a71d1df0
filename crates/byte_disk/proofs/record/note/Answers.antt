use Rattle.std.proofs.Common.{rules, ◌≡◌, ◌++◌, ◌∷◌, [], ℕ, Bool, List, refl}
use Rattle.byte_disk.specs.declared.span.Write.{Write}
use Rattle.byte_disk.proofs.record.note.Goals as goal

pub returns-clause-ok : goal.returns-clause-ok
returns-clause-ok c =
    let write : Write = record { at = c.args.at; bytes = c.in_ok-bytes.bytes; done = c.args.done } in
    let copied : c.in_ok-bytes.bytes.items ≡ c.args.bytes.now = search rules in
    let added : c.push.new.self.items ≡ c.args.span.now.writes.items ++ write ∷ [] = search rules in
    record { write = write; place = refl {A = ℕ}; same_bytes = copied; same_done = refl {A = Bool}; added = added; same_base = refl {A = List ℕ} }
