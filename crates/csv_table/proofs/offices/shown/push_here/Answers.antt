use Rattle.std.proofs.Common.{◌++◌, sym, ap, ◌∙◌}
use Rattle.csv_table.specs.Shown.{found}
use Rattle.csv_table.specs.Standing.{given_in}
use Rattle.csv_table.proofs.FoundLemmas.{found_some, left_of, put_of}
use Rattle.csv_table.proofs.offices.shown.push_here.Goals as goal

pub returns-in_ok-push_name-in-Some-clause-next : goal.returns-in_ok-push_name-in-Some-clause-next
returns-in_ok-push_name-in-Some-clause-next c =
    let n = found_some c.args.names.now c.args.rest.now c.args.starts c.in-Some.name.now (sym (ap given_in c.in-Some.is) ∙ c.found.ensures) in
    c.saturating_sub.ensures ∙ left_of n.0 (found c.args.names.now c.args.rest.now c.args.starts) c.split.result.0.now n.1 (n.3 ∙ sym c.split.ensures.0)

pub returns-in_ok-push_name-in-Some-clause-put : goal.returns-in_ok-push_name-in-Some-clause-put
returns-in_ok-push_name-in-Some-clause-put c =
    let n = found_some c.args.names.now c.args.rest.now c.args.starts c.in-Some.name.now (sym (ap given_in c.in-Some.is) ∙ c.found.ensures) in
    c.in_ok-push_name-in-Some.ensures
    ∙ ap (λ l. c.args.out.now.items ++ l) (put_of c.args.keeps c.args.byte n.0 (found c.args.names.now c.args.rest.now c.args.starts) c.in-Some.name.now c.split.result.0.now n.1 n.2 (n.3 ∙ sym c.split.ensures.0))
