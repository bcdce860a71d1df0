use Rattle.std.proofs.Common.{List, ℕ, ◌+◌, map, drop}
use Rattle.std.proofs.lemmas.Result.{err_from_is_err_and}
use Rattle.std.specs.Borrow.{Bor}
use Rattle.reg_keys.proofs.NamedLemmas.{here, ended}
use Rattle.reg_keys.proofs.ToldLemmas.{completes_more, passes_more, passes_here, all_told, none_told}
use Rattle.reg_keys.proofs.telling.told_among.Goals as goal

pub loop-word-init : goal.loop-word-init
loop-word-init c = λ rs is. (none_told rs (map (λ w. w.now) c.args.words.now) c.new-ids.result.items c.new-ids.ensures.items, λ f o. o)

pub loop-word-preserved : goal.loop-word-preserved
loop-word-preserved c = λ rs is.
    let all = map (λ (w : Bor (List ℕ)). w.now) c.args.words.now in
    let rest = map (λ (w : Bor (List ℕ)). w.now) (drop c.loop-word.word-index c.args.words.now) in
    let others = map (λ (w : Bor (List ℕ)). w.now) (drop (c.loop-word.word-index + 1) c.args.words.now) in
    let told = c.in_ok-push_told.ensures.ok rs is in
    let was = c.loop-word.invariant rs is in (
      completes_more rs all rest others _ told.0 c.loop-word.ids.items c.push_told.new.ids.items (here (λ (v : Bor (List ℕ)). v.now) c.args.words.now c.loop-word.word-index _ c.loop-word-test.true) told.1 told.2 was.0,
      passes_more rs all rest others _ told.0 (here (λ (v : Bor (List ℕ)). v.now) c.args.words.now c.loop-word.word-index _ c.loop-word-test.true) told.1 was.1,
    )

pub returns-clause-ok : goal.returns-clause-ok
returns-clause-ok c = λ rs is.
    let all = map (λ (w : Bor (List ℕ)). w.now) c.args.words.now in
    all_told rs all (map (λ (w : Bor (List ℕ)). w.now) (drop c.loop-word.word-index c.args.words.now)) c.loop-word.ids.items (ended (λ (v : Bor (List ℕ)). v.now) c.args.words.now c.loop-word.word-index c.loop-word-test.false) (c.loop-word.invariant rs is).0

pub returns-in_err-push_told-clause-fault : goal.returns-in_err-push_told-clause-fault
returns-in_err-push_told-clause-fault c = λ rs is.
    let all = map (λ (w : Bor (List ℕ)). w.now) c.args.words.now in
    let rest = map (λ (w : Bor (List ℕ)). w.now) (drop c.loop-word.word-index c.args.words.now) in
    let others = map (λ (w : Bor (List ℕ)). w.now) (drop (c.loop-word.word-index + 1) c.args.words.now) in
    let p = err_from_is_err_and c.from_residual.result c.from_residual.ensures.1 in
    rw (p.1, p.2) (passes_here rs all rest others _ _ (here (λ (v : Bor (List ℕ)). v.now) c.args.words.now c.loop-word.word-index _ c.loop-word-test.true) (c.in_err-push_told.ensures.fault rs is) (c.loop-word.invariant rs is).1)
