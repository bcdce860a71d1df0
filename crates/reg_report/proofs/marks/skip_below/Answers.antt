use Rattle.std.proofs.Common.{drop, ap, ◌∙◌}
use Rattle.std.proofs.lemmas.List.{take_rest}
use Rattle.reg_report.proofs.marks.skip_below.Goals as goal

pub returns : goal.returns
returns c = take_rest c.args.marks.now c.count_below.result ∙ ap (λ n. drop n c.args.marks.now) c.count_below.ensures.count
