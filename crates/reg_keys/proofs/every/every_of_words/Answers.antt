use Rattle.std.proofs.Common.{List, ℕ, ◌+◌, map, drop}
use Rattle.std.proofs.lemmas.Result.{err_from_is_err_and}
use Rattle.std.specs.Borrow.{Bor}
use Rattle.reg_report.specs.Seen.{row_seen}
use Rattle.reg_keys.proofs.NamedLemmas.{here, ended}
use Rattle.reg_keys.proofs.EveryLemmas.{stands_least, every_more, passes_more, passes_here, all_every, none_every}
use Rattle.reg_keys.proofs.every.every_of_words.Goals as goal

pub loop-at-init : goal.loop-at-init
loop-at-init c = (none_every (map row_seen c.args.rows.now) (map (λ w. w.now) c.args.words.now) c.new-ids.result.items c.new-ids.ensures.items, λ k f o. o)

pub loop-at-preserved : goal.loop-at-preserved
loop-at-preserved c =
    let rs = map row_seen c.args.rows.now in
    let at = c.loop-at.at in
    let all = map (λ (w : Bor (List ℕ)). w.now) c.args.words.now in
    let rest = map (λ (w : Bor (List ℕ)). w.now) (drop at c.args.words.now) in
    let others = map (λ (w : Bor (List ℕ)). w.now) (drop (at + 1) c.args.words.now) in
    let first = here (λ (v : Bor (List ℕ)). v.now) c.args.words.now at _ c.loop-at-test.true in
    let told = c.in_ok-push_every.ensures.ok in
    let least = stands_least rs _ told.0 told.1 in (
      every_more rs all rest others _ told.0 c.loop-at.ids.items c.push_every.new.ids.items first told.1 told.2 c.loop-at.invariant.0,
      passes_more rs all rest others at _ least.0 first least.1 c.loop-at.invariant.1,
    )

pub returns-clause-ok : goal.returns-clause-ok
returns-clause-ok c =
    let rs = map row_seen c.args.rows.now in
    let all = map (λ (w : Bor (List ℕ)). w.now) c.args.words.now in
    all_every rs all (map (λ (w : Bor (List ℕ)). w.now) (drop c.loop-at.at c.args.words.now)) c.loop-at.ids.items (ended (λ (v : Bor (List ℕ)). v.now) c.args.words.now c.loop-at.at c.loop-at-test.false) c.loop-at.invariant.0

pub returns-in_err-push_every-clause-fault : goal.returns-in_err-push_every-clause-fault
returns-in_err-push_every-clause-fault c =
    let rs = map row_seen c.args.rows.now in
    let at = c.loop-at.at in
    let all = map (λ (w : Bor (List ℕ)). w.now) c.args.words.now in
    let rest = map (λ (w : Bor (List ℕ)). w.now) (drop at c.args.words.now) in
    let others = map (λ (w : Bor (List ℕ)). w.now) (drop (at + 1) c.args.words.now) in
    let p = err_from_is_err_and c.from_residual.result c.from_residual.ensures.1 in
    rw (p.1, p.2) (passes_here rs all rest others at _ _ _ (here (λ (v : Bor (List ℕ)). v.now) c.args.words.now at _ c.loop-at-test.true) c.in_err-push_every.ensures.fault.0 c.in_err-push_every.ensures.fault.1 c.loop-at.invariant.1)
