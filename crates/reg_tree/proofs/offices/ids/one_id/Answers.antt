use Rattle.std.proofs.Common.{◌≡◌, true, sym, ◌∙◌, subst}
use Rattle.std.proofs.lemmas.Bool.{true≢false}
use Rattle.reg_op.specs.Set as set
use Rattle.reg_op.specs.Ids.{Ids, id_cmp}
use Rattle.reg_state.proofs.TakeLemmas.{seen_one}
use Rattle.reg_tree.proofs.offices.ids.one_id.Goals as goal

pub add_run-requires-clause-above : goal.add_run-requires-clause-above
add_run-requires-clause-above c = λ i h. absurd (true≢false (sym (subst (λ (s : Ids). set.contains s i ≡ true) c.new-seen.ensures h) ∙ set.contains-empty id_cmp i))

pub returns : goal.returns
returns c = seen_one c.args.id _ _ _ _ _ c.new-seen.ensures c.in_ok-add_run.ensures.ok c.replica.ensures.value c.count.ensures.value c.count-2.ensures.value
