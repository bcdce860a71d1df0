use Rattle.std.proofs.Common.{◌≡◌, List, map, ◌∷◌, ◌++◌, [], ap, ◌∙◌}
use Rattle.reg_report.specs.Conflicts.{KeyBytes, bytes_of}
use Rattle.reg_report.specs.Contenders.{conflict_seen}
use Rattle.reg_news.proofs.KeyLemmas.{items_more, items_all}
use Rattle.reg_news.proofs.news.keys_of_conflicts.Goals as goal

pub loop-conflict-preserved : goal.loop-conflict-preserved
loop-conflict-preserved c =
    items_more (λ x. (conflict_seen x).key) (λ (ks : List KeyBytes). map bytes_of c.push_key.new.keys.items ≡ ks) c.args.conflicts.now c.loop-conflict.conflict-index c.conflict-item.result c.loop-conflict-test.true c.conflict-item.is
    (c.in_ok-push_key.ensures ∙ ap (λ ks. ks ++ (conflict_seen c.conflict-item.result).key ∷ []) c.loop-conflict.invariant)

pub returns : goal.returns
returns c = items_all (λ x. (conflict_seen x).key) (λ (ks : List KeyBytes). map bytes_of c.loop-conflict.keys.items ≡ ks) c.args.conflicts.now c.loop-conflict.conflict-index c.loop-conflict-test.false c.loop-conflict.invariant
