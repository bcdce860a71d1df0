use Rattle.std.proofs.Common.{Bor, List, ℕ, ◌++◌, ◌∷◌, [], ap, ◌∙◌, map}
use Rattle.csv.specs.Records.{fields_of}
use Rattle.csv_table.proofs.ColumnLemmas.{columned_more, columned_all}
use Rattle.csv_table.proofs.ReadLemmas.{read_more, read_all_of}
use Rattle.csv_table.proofs.columns.columns.Goals as goal

pub loop-row-preserved : goal.loop-row-preserved
loop-row-preserved c =
    let inv = c.loop-row.invariant in
    let has = inv.1 in
    let s = rw (c.in-Some.is, c.in-Ok.is) at ((c.next.ensures.steps has.2 has.0).0 has.1) in
    let row = fields_of c.in-Ok.row in
    let fields = ap (map (λ (f : Bor (List ℕ)). f.now)) c.deref.ensures.value ∙ c.in_ok-fields.ensures in (
      inv.0 ++ row ∷ [],
      read_more c.args.rows.now inv.0 c.loop-row.row-iterator c.next.new.self has c.in-Ok.row s,
      columned_more c.loop-row.is_header inv.0 c.loop-row.made.items c.in_ok-made.made.items c.deref.result.now row inv.2 fields c.in_ok-made.ensures,
    )

pub returns : goal.returns
returns c =
    let inv = c.loop-row.invariant in
    let has = inv.1 in (
      inv.0,
      read_all_of c.args.rows.now inv.0 c.loop-row.row-iterator c.next.new.self has (rw c.in-None.is at ((c.next.ensures.steps has.2 has.0).0 has.1)),
      columned_all c.loop-row.is_header inv.0 c.loop-row.made.items inv.2,
    )
