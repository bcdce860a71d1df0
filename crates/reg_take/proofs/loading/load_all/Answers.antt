use Rattle.std.proofs.Common.{ℕ, map, subst, inl, inr}
use Rattle.reg_take.specs.Files.{file_state, AreArrivals, IsStopped}
use Rattle.reg_take.proofs.loading.load_all.Goals as goal

pub returns-in-Err-arrivals-clause-fault : goal.returns-in-Err-arrivals-clause-fault
returns-in-Err-arrivals-clause-fault g c =
    let old = map (λ s. file_state (g.S.Source.state s) (g.S.LateSource.shut s)) c.args.files.now in
    let new = map (λ s. file_state (g.S.Source.state s) (g.S.LateSource.shut s)) c.arrivals.new.files in
    inr (
      c.in-Ok.register,
      c.in-Ok.ensures.came,
      inl (subst (λ (k : ℕ). IsStopped c.args.options.now k old new c.in-Err-arrivals.fault) c.next-next.ensures c.in-Err-arrivals.ensures.fault),
    )

pub returns-in-Err-admitted-clause-fault : goal.returns-in-Err-admitted-clause-fault
returns-in-Err-admitted-clause-fault g c =
    let old = map (λ s. file_state (g.S.Source.state s) (g.S.LateSource.shut s)) c.args.files.now in
    let new = map (λ s. file_state (g.S.Source.state s) (g.S.LateSource.shut s)) c.arrivals.new.files in
    let gave = c.in-Ok-arrivals.arrivals.all.items in
    inr (
      c.in-Ok.register,
      c.in-Ok.ensures.came,
      inr (
        gave,
        subst (λ (k : ℕ). AreArrivals c.args.options.now k old new gave) c.next-next.ensures c.in-Ok-arrivals.ensures.arrived,
        c.in-Err-admitted.ensures.bars c.args.store.now c.load.ensures.same,
      ),
    )
