use Rattle.std.proofs.Common.{◌≡◌, ◌++◌, ◌∷◌, [], not, map, take, filter, Bool, List, ap, sym, ◌∙◌}
use Rattle.std.proofs.lemmas.List.Elements.{filter-append}
use Rattle.reg_report.specs.Conflicts.{KeyBytes, bytes_of}
use Rattle.reg_disorder.specs.Keys.{has_key}
use Rattle.reg_news.proofs.KeyLemmas.{items_more, items_all}
use Rattle.reg_news.proofs.keys.unknown.Goals as goal

pub loop-key-init : goal.loop-key-init
loop-key-init c = ap (map bytes_of) c.new-made.ensures.items

pub loop-key-preserved : goal.loop-key-preserved
loop-key-preserved c =
    let is_new : KeyBytes → Bool = λ k. not (has_key c.in_ok-known.known k) in
    items_more bytes_of (λ (ks : List KeyBytes). map bytes_of c.push_fresh.new.keys.items ≡ filter is_new ks) c.args.later.now c.loop-key.key-index c.key-item.result c.loop-key-test.true c.key-item.is
    (c.in_ok-push_fresh.ensures ∙ ap (λ ks. ks ++ filter is_new (bytes_of c.key-item.result ∷ [])) c.loop-key.invariant
    ∙ sym (filter-append is_new (map bytes_of (take c.loop-key.key-index c.args.later.now)) (bytes_of c.key-item.result ∷ [])))

pub returns : goal.returns
returns c =
    let is_new : KeyBytes → Bool = λ k. not (has_key c.in_ok-known.known k) in
    items_all bytes_of (λ (ks : List KeyBytes). map bytes_of c.loop-key.made.items ≡ filter is_new ks) c.args.later.now c.loop-key.key-index c.loop-key-test.false c.loop-key.invariant
    ∙ (λ j. filter (λ k. not (c.in_ok-known.ensures k j)) (map bytes_of c.args.later.now))
