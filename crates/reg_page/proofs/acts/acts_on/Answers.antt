use Rattle.std.proofs.Common.{rules, ◌∙◌}
use Rattle.std.specs.Ordering.{is_eq}
use Rattle.std.proofs.lemmas.List.Elements.{filter_agree}
use Rattle.reg_op.specs.Ids.{id_cmp}
use Rattle.reg_op.specs.Operations.{Op}
use Rattle.reg_op.proofs.OpLemmas.{id_total}
use Rattle.reg_state.proofs.OrderLemmas.{same_back}
use Rattle.reg_report.proofs.WindowLemmas.{ascends_by_key, window_is}
use Rattle.reg_page.specs.Page.{subject, is_on}
use Rattle.reg_page.proofs.acts.acts_on.Goals as goal

pub returns : goal.returns
returns c =
    let e = c.args.entry in
    let os = c.args.acts.now in
    window_is subject id_cmp id_total e os (ascends_by_key subject id_cmp id_total os c.requires) c.partition_point-low.result c.partition_point-count.result
    c.partition_point-low.ensures.partitioned (λ a r q h. search rules) c.partition_point-count.ensures.partitioned (λ a r q h. search rules)
    ∙ filter_agree (λ (o : Op). is_eq (id_cmp e (subject o))) (is_on e) (λ o. same_back e (subject o)) os
