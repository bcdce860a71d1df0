use Rattle.std.proofs.Common.{ap, map}
use Rattle.std.specs.List.{list_any}
use Rattle.std.specs.Ordering.{is_eq}
use Rattle.reg_report.specs.Conflicts.{key_cmp}
use Rattle.reg_report.specs.declared.key.KeyText.{KeyText}
use Rattle.reg_report.specs.Keys.{key_bytes}
use Rattle.reg_disorder.specs.Marks.{mark_seen}
use Rattle.reg_news.proofs.CodeLemmas.{one_said}
use Rattle.reg_news.proofs.codes.said_by_one.Goals as goal

pub returns : goal.returns
returns c = λ rs ss a b.
    one_said rs ss (map mark_seen c.args.before.now) (map mark_seen c.args.after.now) c.new-keys.result c.put_missing.new.keys c.put_missing-2.new.keys a b
    (λ k. ap (list_any (λ (q : KeyText). is_eq (key_cmp k (key_bytes q)))) c.new-keys.ensures.empty)
    c.in_ok-put_missing.ensures c.in_ok-put_missing-2.ensures
