use Rattle.std.proofs.Common.{◌∙◌, Some, sym, subst, arith}
use Rattle.std.proofs.lemmas.Bool.{and_parts, ltb-true}
use Rattle.reg_state.specs.Runs.{AreRuns, id_at}
use Rattle.reg_state.proofs.RunLemmas.{rest_runs}
use Rattle.reg_journal.proofs.ForgedLemmas.{is_above, above_first, above_rest, leasts_new}
use Rattle.reg_journal.proofs.LeastLemmas.{leasts_same}
use Rattle.reg_journal.proofs.forged.first_above.Goals as goal

pub first_beyond-requires : goal.first_beyond-requires
first_beyond-requires c = ltb-true _ _ (and_parts _ _ (sym c.is_above.ensures ∙ c.if-is_above.true)).1

pub returns-then-is_above : goal.returns-then-is_above
returns-then-is_above c =
    let is = c.first_beyond.ensures in
    leasts_new c.new.result (is_above c.args.replica c.args.last c.args.runs.now) (id_at c.args.replica c.first_beyond.result) (c.new.ensures.some.1 (omega (arith, is))) c.new.ensures.value
    (leasts_same (is_above c.args.replica c.args.last c.loop-run.rest.now) (is_above c.args.replica c.args.last c.args.runs.now) (λ i. sym (c.loop-run.invariant.same i)) (Some (id_at c.args.replica c.first_beyond.result))
    (above_first c.args.replica c.args.last c.first_beyond.result c.in-Some.run'.now c.loop-run.rest.now c.in-Some.others.now c.in-Some.ensures.cases.0 c.loop-run.invariant.runs (sym c.is_above.ensures ∙ c.if-is_above.true) is))

pub loop-run-preserved : goal.loop-run-preserved
loop-run-preserved c = record {
  runs = rest_runs _ _ (subst AreRuns c.in-Some.ensures.cases.0 c.loop-run.invariant.runs);
  same = λ i. c.loop-run.invariant.same i ∙ above_rest c.args.replica c.args.last c.in-Some.run'.now c.loop-run.rest.now c.in-Some.others.now c.in-Some.ensures.cases.0 (sym c.is_above.ensures ∙ c.if-is_above.false) i;
}
