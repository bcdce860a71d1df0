use Rattle.std.proofs.Common.{rules}
use Rattle.std.proofs.lemmas.List.Sorted.{answers_always}
use Rattle.reg_report.specs.declared.row.Row.{Row as MadeRow}
use Rattle.reg_report.proofs.FoundLemmas.{found_row, no_row}
use Rattle.reg_report.proofs.found.find_row.Goals as goal

pub returns-in-Ok-clause-some : goal.returns-in-Ok-clause-some
returns-in-Ok-clause-some c =
    let found = c.in-Ok.ensures.position (λ (y : MadeRow). y.entry) (answers_always _ _ _ (λ f a r g h. search rules)) in
    found_row c.args.rows.now c.in-Ok.at c.index-rows-at.result c.args.entry c.in-Ok.ensures.bound c.index-rows-at.is found

pub returns-in-Err-clause-none : goal.returns-in-Err-clause-none
returns-in-Err-clause-none c =
    let point = c.in-Err.ensures.position (λ (y : MadeRow). y.entry) (answers_always _ _ _ (λ f a r g h. search rules)) in
    no_row c.args.rows.now c.args.entry c.in-Err.field-0 c.requires point
