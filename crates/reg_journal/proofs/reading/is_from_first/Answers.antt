use Rattle.std.proofs.Common.{◌≡◌, ◌∙◌, true, sym, subst, rules}
use Rattle.std.specs.Ordering.{is_eq}
use Rattle.reg_state.specs.Runs.{replica_cmp}
use Rattle.reg_state.proofs.RunLemmas.{same_replica, replica_itself}
use Rattle.reg_journal.proofs.NumbersLemmas.{from_first_is}
use Rattle.reg_journal.proofs.reading.is_from_first.Goals as goal

pub returns-then-run-last : goal.returns-then-run-last
returns-then-run-last c =
    let low : c.args.run.now.low ≡ 1 = search rules in
    let high : c.args.run.now.high ≡ c.args.last = search rules in
    from_first_is c.args.run.now c.args.replica c.args.last c.is_replica.result low high
    (λ h. same_replica _ _ (sym c.is_replica.ensures ∙ h))
    (λ e. c.is_replica.ensures ∙ subst (λ r. is_eq (replica_cmp c.args.run.now.replica r) ≡ true) e (replica_itself c.args.run.now.replica))
