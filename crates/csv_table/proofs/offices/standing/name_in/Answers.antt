use Rattle.std.proofs.Common.{map, sym, ap, ◌∙◌}
use Rattle.csv_table.specs.Standing.{by_office, by_name, given_in}
use Rattle.csv_table.proofs.StandingLemmas.{no_name, no_office, empty_name, other_office, its_name}
use Rattle.csv_table.proofs.offices.standing.name_in.Goals as goal

pub returns-in_default : goal.returns-in_default
returns-in_default c = λ rows names offices. no_name rows c.args.office.now (sym (ap given_in c.in_default.is) ∙ c.one_of.ensures (map by_office rows) names)

pub returns-in_default-one_of : goal.returns-in_default-one_of
returns-in_default-one_of c = λ rows names offices.
    no_office rows c.args.office.now c.in-Some.name.now (sym (ap given_in c.in-Some.is) ∙ c.one_of.ensures (map by_office rows) names)
    (sym (ap given_in c.in_default-one_of.is) ∙ c.one_of-2.ensures (map by_name rows) offices)

pub returns-then-is_empty : goal.returns-then-is_empty
returns-then-is_empty c = λ rows names offices.
    empty_name rows c.args.office.now c.in-Some.name.now (sym (ap given_in c.in-Some.is) ∙ c.one_of.ensures (map by_office rows) names) (sym c.if-is_empty.true ∙ c.is_empty.ensures)

pub returns-then-ne : goal.returns-then-ne
returns-then-ne c = λ rows names offices.
    other_office rows c.args.office.now c.in-Some.name.now c.in-Some-one_of.other.now (sym (ap given_in c.in-Some.is) ∙ c.one_of.ensures (map by_office rows) names)
    (sym (ap given_in c.in-Some-one_of.is) ∙ c.one_of-2.ensures (map by_name rows) offices) (sym c.if-ne.true ∙ c.ne.ensures)

pub returns : goal.returns
returns c = λ rows names offices.
    its_name rows c.args.office.now c.in-Some.name.now c.in-Some-one_of.other.now (sym (ap given_in c.in-Some.is) ∙ c.one_of.ensures (map by_office rows) names)
    (sym (ap given_in c.in-Some-one_of.is) ∙ c.one_of-2.ensures (map by_name rows) offices) (sym c.if-is_empty.false ∙ c.is_empty.ensures) (sym c.if-ne.false ∙ c.ne.ensures)
