use Rattle.std.proofs.Common.{◌∙◌}
use Rattle.csv_table.proofs.FoundLemmas.{all_taken, none_left}
use Rattle.csv_table.proofs.offices.shown.split.Goals as goal

pub returns-then-text-lt36 : goal.returns-then-text-lt36
returns-then-text-lt36 c = (c.split_at.ensures.front ∙ all_taken 36 c.args.text.now c.if-text-lt36.true, c.split_at.ensures.back ∙ none_left 36 c.args.text.now c.if-text-lt36.true)
