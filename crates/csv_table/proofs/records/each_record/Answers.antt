use Rattle.std.proofs.Common.{◌∙◌, sym, refl, inr}
use Rattle.csv.specs.Reading.{Reached, strip_bom}
use Rattle.csv_table.proofs.records.each_record.Goals as goal

pub returns : goal.returns
unfolding Reached
returns c =
    let fr = c.from_reader.ensures in
    let e = c.has_headers.ensures in
    let g = c.flexible.ensures in
    let rdr = c.into_byte_records.ensures.rdr in
    let left = c.into_byte_records.ensures.left in
    rw rdr (
      rw (g, e) at fr.trim ∙ c.new.ensures.trim,
      inr (inr (rw (g, e) at fr.has_headers, fr.headers)),
      left,
      rw (g, e) at fr.config ∙ c.new.ensures.config,
      strip_bom c.args.text.now,
      fr.source,
      (sym fr.state, refl),
    )
