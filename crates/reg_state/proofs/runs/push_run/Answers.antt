use Rattle.std.proofs.Common.{◌≡◌, true, ◌∷◌, ◌++◌, [], sym, ap, ◌∙◌, subst, inl, inr, ◌⊎◌, ◌<◌, ◌-◌, arith}
use Rattle.std.proofs.lemmas.Bool.{true≢false}
use Rattle.std.specs.Ordering.{is_eq}
use Rattle.reg_state.specs.Runs.{AreRuns, AllBegin, replica_cmp}
use Rattle.reg_state.proofs.RunLemmas.{IsPushed-at, pushed_grown, pushed_apart, same_replica, replica_itself}
use Rattle.reg_state.proofs.runs.push_run.Goals as goal
use Rattle.reg_state.proofs.runs.push_run.Goals.{else-is_eq-via-then-is_eq+else-run-last, else-is_eq-via-else-is_eq}

pub returns-in_ok-push-in-Some : goal.returns-in_ok-push-in-Some
returns-in_ok-push-in-Some c =
    let was = c.in-Some.ensures.items in
    let same : is_eq (replica_cmp c.in-Some.last.replica c.args.run.replica) ≡ true = ap is_eq (sym c.cmp.ensures) ∙ sym c.is_eq.ensures ∙ c.if-is_eq.true in
    let p = pushed_grown c.pop.new.self.items c.in-Some.last c.args.run _ c.max.ensures
    (subst AreRuns was c.requires.runs) c.requires.run (subst (λ xs. AllBegin xs c.args.run) was c.requires.order) (same_replica _ _ same) (omega arith) in
    let q = IsPushed-at _ _ _ _ c.args.run (sym was) (sym c.in_ok-push-in-Some.ensures.items) p in
    record { runs = q.runs; covered = q.covered; order = q.order; ids = q.ids }

pub returns-in_ok-push-in-Some-3 : goal.returns-in_ok-push-in-Some-3
returns-in_ok-push-in-Some-3 c =
    let was = c.in-Some.ensures.items in
    let now = c.in_ok-push-in-Some-3.ensures.items ∙ ap (λ xs. xs ++ c.args.run ∷ []) c.in_ok-push-in-Some-2.ensures.items in
    let told : is_eq (replica_cmp c.in-Some.last.replica c.args.run.replica) ≡ c.is_eq.result = ap is_eq (sym c.cmp.ensures) ∙ sym c.is_eq.ensures in
    let far : (c.in-Some.last.replica ≡ c.args.run.replica → ⊥) ⊎ (c.in-Some.last.high < c.args.run.low - 1) =
    elim c.else-is_eq.branch [
      | else-is_eq-via-then-is_eq+else-run-last w ↦ inr (omega arith)
      | else-is_eq-via-else-is_eq w ↦ inl (λ e. true≢false (sym (subst (λ x. is_eq (replica_cmp c.in-Some.last.replica x) ≡ true) e (replica_itself c.in-Some.last.replica)) ∙ told ∙ w.if-is_eq.false))
    ] in
    let p = pushed_apart c.pop.new.self.items c.in-Some.last c.args.run
    (subst AreRuns was c.requires.runs) c.requires.run (subst (λ xs. AllBegin xs c.args.run) was c.requires.order) far in
    let q = IsPushed-at _ _ _ _ c.args.run (sym was) (sym now) p in
    record { runs = q.runs; covered = q.covered; order = q.order; ids = q.ids }
