use Rattle.std.proofs.Common.{Bor, List, ℕ, ◌++◌, ◌∷◌, [], ap, ◌∙◌, map}
use Rattle.csv.specs.Records.{fields_of}
use Rattle.csv_table.specs.Table.{line}
use Rattle.csv_table.proofs.LineLemmas.{one_line_more}
use Rattle.csv_table.proofs.ReadLemmas.{read_more, read_all_of}
use Rattle.csv_table.proofs.lines.push_lines.Goals as goal

pub loop-row-preserved : goal.loop-row-preserved
loop-row-preserved c =
    let inv = c.loop-row.invariant in
    let has = inv.1 in
    let s = rw (c.in-Some.is, c.in-Ok.is) at ((c.next.ensures.steps has.2 has.0).0 has.1) in
    let fields = ap (map (λ (f : Bor (List ℕ)). f.now)) c.deref.ensures.value ∙ c.in_ok-fields.ensures in (
      inv.0 ++ fields_of c.in-Ok.row ∷ [],
      read_more c.args.rows.now inv.0 c.loop-row.row-iterator c.next.new.self has c.in-Ok.row s,
      one_line_more c.args.columns.now inv.0 (fields_of c.in-Ok.row) c.args.text.now.items c.loop-row.text.items c.push_line.new.text.items inv.2
          (c.in_ok-push_line.ensures ∙ ap (λ (f : List (List ℕ)). c.loop-row.text.items ++ line c.args.columns.now f) fields),
    )

pub returns : goal.returns
returns c =
    let inv = c.loop-row.invariant in
    let has = inv.1 in
    (inv.0, read_all_of c.args.rows.now inv.0 c.loop-row.row-iterator c.next.new.self has (rw c.in-None.is at ((c.next.ensures.steps has.2 has.0).0 has.1)), inv.2)
