use Rattle.std.proofs.Common.{List, ℕ, ◌+◌, map, drop}
use Rattle.std.proofs.lemmas.Result.{err_from_is_err_and}
use Rattle.std.specs.Borrow.{Bor}
use Rattle.reg_keys.proofs.NamedLemmas.{here, ended}
use Rattle.reg_commands.proofs.MeaningLemmas.{means_least, every_more, passes_more, passes_here, all_every, none_every}
use Rattle.reg_commands.proofs.words.meaning.every_of.Goals as goal

pub loop-word-init : goal.loop-word-init
loop-word-init c = λ xs zs was now. (none_every xs zs (map (λ w. w.now) c.args.words.now) c.new-ids.result.items c.new-ids.ensures.items, λ f o. o)

pub loop-word-preserved : goal.loop-word-preserved
loop-word-preserved c = λ xs zs was now.
    let all = map (λ (w : Bor (List ℕ)). w.now) c.args.words.now in
    let rest = map (λ (w : Bor (List ℕ)). w.now) (drop c.loop-word.word-index c.args.words.now) in
    let others = map (λ (w : Bor (List ℕ)). w.now) (drop (c.loop-word.word-index + 1) c.args.words.now) in
    let first = here (λ (v : Bor (List ℕ)). v.now) c.args.words.now c.loop-word.word-index _ c.loop-word-test.true in
    let told = c.in_ok-push_every.ensures.ok xs zs was now in
    let least = means_least xs zs _ told.0 told.1 in (
      every_more xs zs all rest others _ told.0 c.loop-word.ids.items c.push_every.new.ids.items first told.1 told.2 (c.loop-word.invariant xs zs was now).0,
      passes_more xs zs all rest others _ least.0 first least.1 (c.loop-word.invariant xs zs was now).1,
    )

pub returns-clause-ok : goal.returns-clause-ok
returns-clause-ok c = λ xs zs was now.
    let all = map (λ (w : Bor (List ℕ)). w.now) c.args.words.now in
    all_every xs zs all (map (λ (w : Bor (List ℕ)). w.now) (drop c.loop-word.word-index c.args.words.now)) c.loop-word.ids.items (ended (λ (v : Bor (List ℕ)). v.now) c.args.words.now c.loop-word.word-index c.loop-word-test.false) (c.loop-word.invariant xs zs was now).0

pub returns-in_err-push_every-clause-fault : goal.returns-in_err-push_every-clause-fault
returns-in_err-push_every-clause-fault c = λ xs zs was now.
    let all = map (λ (w : Bor (List ℕ)). w.now) c.args.words.now in
    let rest = map (λ (w : Bor (List ℕ)). w.now) (drop c.loop-word.word-index c.args.words.now) in
    let others = map (λ (w : Bor (List ℕ)). w.now) (drop (c.loop-word.word-index + 1) c.args.words.now) in
    let first = here (λ (v : Bor (List ℕ)). v.now) c.args.words.now c.loop-word.word-index _ c.loop-word-test.true in
    let p = err_from_is_err_and c.from_residual.result c.from_residual.ensures.1 in
    rw (p.1, p.2) (passes_here xs zs all rest others _ _ first (c.in_err-push_every.ensures.fault xs zs was now) (c.loop-word.invariant xs zs was now).1)
