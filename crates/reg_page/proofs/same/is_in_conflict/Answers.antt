use Rattle.std.proofs.Common.{◌≡◌, rules}
use Rattle.std.proofs.lemmas.Fn.{always_returns_same}
use Rattle.reg_report.specs.declared.conflict.Conflict.{Conflict}
use Rattle.reg_report.specs.Conflicts.{bytes_of, key_cmp}
use Rattle.reg_report.specs.Contenders.{conflict_seen}
use Rattle.reg_page.proofs.SameTextLemmas.{key_found, key_absent}
use Rattle.reg_page.proofs.same.is_in_conflict.Goals as goal

pub returns-in-Ok : goal.returns-in-Ok
returns-in-Ok c =
    let found = c.in-Ok.ensures.position (λ (k : Conflict). key_cmp (conflict_seen k).key (bytes_of c.args.one.now.key))
    (always_returns_same _ (λ a r. r ≡ key_cmp (conflict_seen a.0.now).key (bytes_of c.args.one.now.key)) _ (λ a r n h. search rules)) in
    key_found c.args.conflicts.now c.args.one.now c.in-Ok.field-0 c.in-Ok.ensures.bound found

pub returns-in-Err : goal.returns-in-Err
returns-in-Err c =
    let point = c.in-Err.ensures.position (λ (k : Conflict). key_cmp (conflict_seen k).key (bytes_of c.args.one.now.key))
    (always_returns_same _ (λ a r. r ≡ key_cmp (conflict_seen a.0.now).key (bytes_of c.args.one.now.key)) _ (λ a r n h. search rules)) in
    key_absent c.args.conflicts.now c.args.one.now c.in-Err.field-0 c.requires point
