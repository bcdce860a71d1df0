use Rattle.std.proofs.Common.{[], ◌∷◌, map, sym, subst, append-nil}
use Rattle.csv_table.specs.Standing.{by_office, by_name, Has}
use Rattle.csv_table.proofs.StandingLemmas.{one_less, all_later, none_given, has_pair}
use Rattle.csv_table.proofs.offices.standing.partners_of.Goals as goal

pub loop-row-init : goal.loop-row-init
loop-row-init c = ([], sym (append-nil c.args.rows.now), none_given c.new-names.result c.new-names.ensures.empty, none_given c.new-offices.result c.new-offices.ensures.empty)

pub loop-row-preserved : goal.loop-row-preserved
loop-row-preserved c =
    let was = c.loop-row.invariant in
    let row = c.in-Some.row.now in (
      c.in-Some.row.now ∷ was.0,
      one_less c.args.rows.now c.loop-row.rest.now c.in-Some.others.now was.0 c.in-Some.row.now was.1 c.in-Some.ensures.cases.0,
      has_pair c.put.new.map _ row.office.items _ row.name.items (map by_office was.0) c.as_slice.ensures.value c.as_slice-in-Some.ensures.value (c.in_ok-put.ensures (map by_office was.0) was.2),
      has_pair c.put-in-Some.new.map _ row.name.items _ row.office.items (map by_name was.0) c.as_slice-in-Some-2.ensures.value c.as_slice-in-Some-3.ensures.value (c.in_ok-put-2.ensures (map by_name was.0) was.3),
    )

pub returns-clause-names : goal.returns-clause-names
returns-clause-names c =
    let was = c.loop-row.invariant in
    subst (λ l. Has c.loop-row.names (map by_office l)) (sym (all_later c.loop-row.rest.now c.args.rows.now was.0 c.in_default.ensures.cases was.1)) was.2

pub returns-clause-offices : goal.returns-clause-offices
returns-clause-offices c =
    let was = c.loop-row.invariant in
    subst (λ l. Has c.loop-row.offices (map by_name l)) (sym (all_later c.loop-row.rest.now c.args.rows.now was.0 c.in_default.ensures.cases was.1)) was.3
