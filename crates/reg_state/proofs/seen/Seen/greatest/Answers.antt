use Rattle.std.proofs.Common.{subst}
use Rattle.reg_state.specs.Runs.{IsGreatest, IsLastCount}
use Rattle.reg_state.proofs.SearchLemmas.{greatest_of}
use Rattle.reg_state.proofs.seen.Seen.greatest.Goals as goal

pub returns : goal.returns
returns c =
    subst (λ s. IsGreatest s c.args.replica c.last_count.result) c.self.view_is
    (greatest_of c.self.inside.runs.items c.args.replica c.last_count.result
    (subst (λ rs. IsLastCount rs c.args.replica c.last_count.result) c.deref.ensures.value
    (record { there = c.last_count.ensures.there; bound = c.last_count.ensures.bound })))
