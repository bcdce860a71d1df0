use Rattle.std.proofs.Common.{◌≡◌, ℕ, ◌++◌, ◌∷◌, [], sym, ap, ◌∙◌, subst}
use Rattle.reg_op.specs.Set as set
use Rattle.reg_op.specs.Ids.{Id, IsId}
use Rattle.reg_state.specs.declared.run.Run.{Run}
use Rattle.reg_state.specs.Runs.{AreSeen, IsAbove, id_at, ids_of_run, seen_of}
use Rattle.reg_state.proofs.RunLemmas.{contains-seen_of, AreRuns-above, EndInIds-push, seen_of-push}
use Rattle.reg_state.proofs.seen.Seen.add_run.Goals as goal

-- a run whose end is set to the count of its last id does not change
same_run : (r : Run) (i : Id) (n : ℕ) → n ≡ i.count → i ≡ id_at r.replica r.high → ◌≡◌ {A = Run} (record { replica = r.replica; low = r.low; high = n }) r
same_run r i n e f = λ k. record { replica = r.replica; low = r.low; high = (e ∙ ap (λ (j : Id). j.count) f) k }

pub invariant_of-self-2 : goal.invariant_of-self-2
invariant_of-self-2 c =
    let rs = c.self.inside.runs.items in
    let run = c.args.run in
    let is = same_run run c.in-Some.last c.count-high.result c.count-high.ensures.value c.in-Some.ensures.value in
    let above : IsAbove (seen_of rs) run = subst (λ s. IsAbove s run) (sym c.self.view_is) c.requires.above in
    subst AreSeen (sym (c.in_ok-push.ensures.items ∙ ap (λ r. rs ++ r ∷ []) is)) (record {
      runs = AreRuns-above rs run c.self.invariant.runs c.requires.run (λ i h. above i (contains-seen_of rs i ∙ h));
      ids = EndInIds-push rs run c.self.invariant.ids (subst IsId c.in-Some.ensures.value c.count-high.ensures.id);
    })

pub returns-clause-ok : goal.returns-clause-ok
returns-clause-ok c =
    let rs = c.self.inside.runs.items in
    let run = c.args.run in
    let is = same_run run c.in-Some.last c.count-high.result c.count-high.ensures.value c.in-Some.ensures.value in
    ap seen_of (c.in_ok-push.ensures.items ∙ ap (λ r. rs ++ r ∷ []) is)
    ∙ seen_of-push rs run
    ∙ ap (λ s. set.union s (set.from_list (ids_of_run run))) c.self.view_is
