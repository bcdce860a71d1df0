use Rattle.std.specs.BTreeMap.{get}
use Rattle.reg_report.specs.Seen.{row_seen}
use Rattle.reg_disorder.specs.LinkHeirs.{bytes_cmp, entry_in}
use Rattle.reg_disorder.proofs.Firsts.{text_put, not_text, not_both}
use Rattle.reg_disorder.proofs.linking.heir.put_text.Goals as goal

pub returns-then-not-is_live : goal.returns-then-not-is_live
returns-then-not-is_live c = λ later has q.
    not_text (row_seen c.args.row.now) later q.now (entry_in (get bytes_cmp c.args.texts.now q)) (λ stands. not_both c.is_live.result (c.is_live.ensures.1 stands) c.if-not-is_live.true) (has q)

pub returns : goal.returns
returns c = λ later has q.
    text_put c.args.row later c.as_bytes.result.now q.now (get bytes_cmp c.args.texts.now q) (get bytes_cmp c.insert.new.self q) (c.is_live.ensures.0 c.if-not-is_live.false) c.as_bytes.ensures.bytes (c.in_ok-insert.ensures.updates.0 q) (has q)
