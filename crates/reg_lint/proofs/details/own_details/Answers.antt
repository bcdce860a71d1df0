use Rattle.std.proofs.Common.{◌≡◌, [], ◌∷◌, ◌+◌, map, length, drop, sym, ap, ◌∙◌}
use Rattle.std.proofs.lemmas.List.{map-append, drop_more, drop_all}
use Rattle.reg_sense.specs.Claimants.{detail_seen}
use Rattle.reg_lint.specs.declared.screened.Screened.{Screened}
use Rattle.reg_lint.specs.Details.{told}
use Rattle.reg_lint.specs.Screening.{kept_in}
use Rattle.reg_lint.proofs.KeptLemmas.{map_begun, map_step, map_done}
use Rattle.reg_lint.proofs.details.own_details.Goals as goal

pub loop-one-init : goal.loop-one-init
loop-one-init c = map_begun (told c.args.rule) (map kept_in c.args.screened.now) (map detail_seen c.in_ok-made.made.items) (ap (map detail_seen) c.in_ok-made.ensures.items)

pub loop-one-preserved : goal.loop-one-preserved
loop-one-preserved c =
    let all = c.args.screened.now in
    let i = c.loop-one.one-index in
    let one = c.one-item.result in
    let first : drop i all ≡ one ∷ drop (i + 1) all = drop_more all i one c.loop-one-test.true ∙ ap (λ (x : Screened). x ∷ drop (i + 1) all) (sym c.one-item.is) in
    map_step (told c.args.rule) (map kept_in all) (map kept_in (drop i all)) (map kept_in (drop (i + 1) all)) (kept_in one)
    (map detail_seen c.loop-one.made.items) (map detail_seen c.push.new.self.items) (detail_seen c.in_ok-detail.detail)
    (ap (map kept_in) first)
    (ap (map detail_seen) c.in_ok-push.ensures.items ∙ map-append detail_seen c.loop-one.made.items (c.in_ok-detail.detail ∷ []))
    c.in_ok-detail.ensures c.loop-one.invariant

pub returns : goal.returns
returns c =
    let all = c.args.screened.now in
    map_done (told c.args.rule) (map kept_in all) (map kept_in (drop c.loop-one.one-index all)) (map detail_seen c.loop-one.made.items)
    (ap length (ap (map kept_in) (drop_all c.loop-one.one-index all c.loop-one-test.false))) c.loop-one.invariant
