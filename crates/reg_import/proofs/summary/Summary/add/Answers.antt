use Rattle.std.proofs.Common.{true, ◌∙◌}
use Rattle.reg_import.specs.Imports.{and_least}
use Rattle.reg_import.proofs.SummaryLemmas.{sums_more}
use Rattle.reg_import.proofs.summary.Summary.add.Goals as goal

pub returns : goal.returns
returns c = λ es sums.
    let e = c.args.entry.now in
    sums_more c.args.self.now (record { least = c.and_least-self.result; texts = c.insert.new.self }) es e c.in_ok-text.text c.and_found-found.result sums
    c.in_ok-text.ensures
    (c.and_found-found.ensures.any ∙ (λ j. and_least true (c.found_at.ensures j).any e.entry))
    (c.and_found-found.ensures.valid ∙ (λ j. and_least e.valid (c.found_at.ensures j).valid e.entry))
    c.and_least-self.ensures c.in_ok-insert.ensures.updates.0
