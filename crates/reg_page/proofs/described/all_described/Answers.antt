use Rattle.std.proofs.Common.{◌≡◌, map, filter, ap, sym, ◌∙◌, List, subst}
use Rattle.std.proofs.lemmas.List.{take_all}
use Rattle.reg_op.specs.Set as set
use Rattle.reg_op.specs.Set.{Ascends}
use Rattle.reg_op.specs.Ids.{id_cmp}
use Rattle.reg_op.specs.Lists.{ById}
use Rattle.reg_op.specs.Operations.{Op}
use Rattle.reg_op.specs.Status.{is_enter}
use Rattle.reg_report.proofs.PairLemmas.{is_member}
use Rattle.reg_page.specs.declared.described.Described.{Described}
use Rattle.reg_page.specs.Descriptions.{entry_ids}
use Rattle.reg_page.proofs.IdLemmas.{ids_ascend}
use Rattle.reg_page.proofs.described.all_described.Goals as goal

pub push_described-requires-clause-there : goal.push_described-requires-clause-there
push_described-requires-clause-there c = is_member c.args.register.now.ops c.as_slice-ops.result.now c.loop-op.op-index c.op-item.result (c.as_slice-ops.ensures ∙ c.ops.ensures.items) c.loop-op-test.true c.op-item.is

pub returns : goal.returns
returns c =
    let s = c.args.register.now.ops in
    let ids : map (λ (t : Described). t.id) c.loop-op.made.items ≡ entry_ids s =
    c.loop-op.invariant.1 ∙ ap (λ (os : List Op). map (λ (o : Op). o.id) (filter (λ (o : Op). is_enter o.body) os)) (take_all c.loop-op.op-index c.as_slice-ops.result.now c.loop-op-test.false ∙ c.as_slice-ops.ensures ∙ c.ops.ensures.items) in
    record {
      each = c.loop-op.invariant.0;
      ids = ids;
      ascend = subst (Ascends id_cmp) (sym ids) (ids_ascend (set.items s) (subst ById c.ops.ensures.items c.ops.ensures.by_id));
    }
