use Rattle.std.proofs.Common.{ap, ◌∙◌, refl}
use Rattle.wkt_grammar.specs.declared.table.Node.TheVariants as nodes
use Rattle.wkt_grammar.specs.declared.table.SlotName.TheVariants as slots
use Rattle.wkt_grammar.specs.declared.table.Keyword.TheVariants as keywords
use Rattle.wkt_grammar.specs.declared.table.Takes.TheVariants as kinds
use Rattle.wkt_grammar.specs.Denotes.{projected_fields, DenotesBase, DenotesConversion}
use Rattle.wkt_grammar.proofs.Leaves.{text_law}
use Rattle.wkt_grammar.proofs.Nodes.{base_law, conversion_law}
use Rattle.crs_part.specs.declared.crs.Projected.{Projected}
use Rattle.wkt_build.specs.Reads.{BuildsOne}
use Rattle.wkt_build.specs.Rest.{BuildsRest, ending_fields, ending_row}
use Rattle.wkt_build.proofs.Held.{held, kept}
use Rattle.wkt_build.proofs.Rows.{first_one, made_node, then_one, Made}
use Rattle.wkt_build.proofs.crs.build_projected.Goals as goal

pub returns-clause-builds : goal.returns-clause-builds
returns-clause-builds c =
    let two = c.in_ok-base-2.ensures in
    let three = c.in_ok-base-3.ensures in
    let b = c.in_ok-base-3.base in
    let k = c.in_ok-base-3.conversion in
    let e = c.in_ok-base-3.ending in
    let v : Projected = record { name = c.in_ok-name.name; base = b; conversion = k; system = e.system; axes = e.axes; unit = e.unit; usages = e.usages; ids = e.ids; remark = e.remark } in
    made_node nodes.ProjectedCrs projected_fields c.args.cursor.now c.pass-2.new.cursor v c.pass.ensures.left
    (first_one slots.Name text_law c.pass.new.cursor c.in_ok-name.name c.in_ok-name.ensures.builds
    (then_one slots.Base base_law c.take_one.new.cursor b
    (kept (Made kinds.BaseCrs DenotesBase c.take_one.new.cursor c.take_one-2.new.cursor) c.in_ok-base.base b (ap (λ p. p.0) three.0 ∙ two.0) c.in_ok-base.ensures.builds)
    (then_one slots.Conversion conversion_law c.take_one-2.new.cursor k
    (held (BuildsOne (kinds.Node keywords.Conversion nodes.Conversion) DenotesConversion c.take_one-2.new.cursor c.take_one-3.new.cursor) c.take_one-3.result c.in_ok-base-2.conversion k two.1 (ap (λ p. p.1) three.0) c.take_one-3.ensures.builds)
    (held (BuildsRest ending_row ending_fields c.take_one-3.new.cursor c.take_ending.new.cursor) c.take_ending.result e e three.1 refl c.take_ending.ensures.builds)))) c.pass-2.ensures.left
