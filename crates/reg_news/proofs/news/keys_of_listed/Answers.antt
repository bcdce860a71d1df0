use Rattle.std.proofs.Common.{◌≡◌, List, map, ◌∷◌, ◌++◌, [], ap, ◌∙◌}
use Rattle.reg_report.specs.Conflicts.{KeyBytes, bytes_of}
use Rattle.reg_disorder.specs.Lists.{listed_seen}
use Rattle.reg_news.proofs.KeyLemmas.{items_more, items_all}
use Rattle.reg_news.proofs.news.keys_of_listed.Goals as goal

pub loop-one-preserved : goal.loop-one-preserved
loop-one-preserved c =
    items_more (λ x. (listed_seen x).key) (λ (ks : List KeyBytes). map bytes_of c.push_key.new.keys.items ≡ ks) c.args.listed.now c.loop-one.one-index c.one-item.result c.loop-one-test.true c.one-item.is
    (c.in_ok-push_key.ensures ∙ ap (λ ks. ks ++ (listed_seen c.one-item.result).key ∷ []) c.loop-one.invariant)

pub returns : goal.returns
returns c = items_all (λ x. (listed_seen x).key) (λ (ks : List KeyBytes). map bytes_of c.loop-one.keys.items ≡ ks) c.args.listed.now c.loop-one.one-index c.loop-one-test.false c.loop-one.invariant
