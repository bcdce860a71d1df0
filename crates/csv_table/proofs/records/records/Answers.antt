use Rattle.std.proofs.Common.{◌≡◌, [], ◌∷◌, map, rules, true}
use Rattle.std.specs.Result.{is_ok}
use Rattle.std.proofs.lemmas.List.{map-append}
use Rattle.csv.specs.Records.{fields_of}
use Rattle.csv_table.proofs.ReadLemmas.{read_more, read_all_of}
use Rattle.csv_table.proofs.records.records.Goals as goal

pub loop-row-preserved : goal.loop-row-preserved
loop-row-preserved c =
    let inv = c.loop-row.invariant in
    let s = rw (c.in-Some.is, c.in_ok-row.was) at ((c.next.ensures.steps inv.2 inv.0).0 inv.1) in
    let good : is_ok c.push.result ≡ true = search rules in
    let items = rw good at c.push.ensures.items in
    rw (items, map-append fields_of c.loop-row.rows.items (c.in_ok-row.field-0 ∷ [])) (read_more c.args.text.now (map fields_of c.loop-row.rows.items) c.loop-row.row-iterator c.next.new.self inv c.in_ok-row.field-0 s)

pub returns : goal.returns
returns c =
    let inv = c.loop-row.invariant in
    read_all_of c.args.text.now (map fields_of c.loop-row.rows.items) c.loop-row.row-iterator c.next.new.self inv (rw c.in-None.is at ((c.next.ensures.steps inv.2 inv.0).0 inv.1))
