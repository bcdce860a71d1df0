use Rattle.std.proofs.Common.{rules, ap, ◌∙◌}
use Rattle.std.specs.Borrow.{Bor}
use Rattle.reg_report.proofs.WindowLemmas.{ascends_by_key, window_is}
use Rattle.reg_page.specs.declared.described.Described.{Described}
use Rattle.reg_page.specs.Descriptions.{at}
use Rattle.reg_page.specs.SameTexts.{text_cmp, has_same_text, first_id}
use Rattle.reg_page.proofs.SameTextLemmas.{text_total, at_filter}
use Rattle.reg_page.proofs.same.same_text.Goals as goal

pub returns : goal.returns
returns c =
    let behind = λ (t : Bor Described). t.now in
    let t = c.args.one.now in
    let ts = c.args.sorted.now in
    c.first_of.ensures
    ∙ ap (λ l. first_id (at l))
    (window_is behind text_cmp text_total t ts (ascends_by_key behind text_cmp text_total ts c.requires) c.partition_point-low.result c.partition_point-count.result
    c.partition_point-low.ensures.partitioned (λ a r q h. search rules) c.partition_point-count.ensures.partitioned (λ a r q h. search rules))
    ∙ ap first_id (at_filter (has_same_text t) ts)
