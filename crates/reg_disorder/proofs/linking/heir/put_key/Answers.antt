use Rattle.std.specs.BTreeMap.{get}
use Rattle.reg_report.specs.Seen.{row_seen}
use Rattle.reg_report.specs.Keys.{key_bytes, text_cmp}
use Rattle.reg_disorder.specs.LinkHeirs.{entry_in}
use Rattle.reg_disorder.proofs.Firsts.{key_put, not_key, not_both}
use Rattle.reg_disorder.proofs.linking.heir.put_key.Goals as goal

pub returns-then-not-is_live : goal.returns-then-not-is_live
returns-then-not-is_live c = λ later has q.
    not_key (row_seen c.args.row.now) later (key_bytes q) (entry_in (get text_cmp c.args.keys.now q)) (λ stands. not_both c.is_live.result (c.is_live.ensures.1 stands) c.if-not-is_live.true) (has q)

pub returns : goal.returns
returns c = λ later has q.
    key_put c.args.row later (key_bytes c.key_of-key.result) (key_bytes q) (get text_cmp c.args.keys.now q) (get text_cmp c.insert.new.self q) (c.is_live.ensures.0 c.if-not-is_live.false) c.key_of-key.ensures (c.in_ok-insert.ensures.updates.0 q) (has q)
