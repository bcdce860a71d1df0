use Rattle.std.proofs.Common.{◌-◌, List, ap, sym, subst, ◌∙◌}
use Rattle.std.specs.List.{count_by}
use Rattle.reg_op.specs.Set as set
use Rattle.reg_op.specs.Ids.{Id, Ids}
use Rattle.reg_op.specs.Operations.{Op}
use Rattle.reg_state.specs.Runs.{IsGreatest}
use Rattle.reg_query.specs.Offices.{is_of, is_op_of}
use Rattle.reg_query.proofs.SeenLemmas.{ids_are}
use Rattle.reg_query.proofs.figures.office.office_of.Goals as goal

pub returns-clause-office : goal.returns-clause-office
returns-clause-office c =
    let q = c.args.replica in
    let n = c.greatest-greatest.result in record {
      greatest = subst (λ (s : Ids). IsGreatest s q n) c.seen-seen.ensures.value c.greatest-greatest.ensures;
      missing = c.missing_of-missing.ensures
          ∙ ap (λ (is : List Id). n - count_by (is_of q) is) (sym (ids_are c.runs.result.now c.runs.ensures.runs) ∙ ap set.items (c.runs.ensures.all ∙ c.seen-seen.ensures.value));
      kept = c.count_of-kept.ensures ∙ ap (λ (os : List Op). count_by (is_op_of q) os) (c.as_slice.ensures ∙ c.ops.ensures.items);
    }
