use Rattle.std.proofs.Common.{ap, ◌∙◌, None, OnOk, IfOk, ◌≡◌, refl, subst}
use Rattle.wkt_grammar.specs.declared.table.Node.TheVariants as nodes
use Rattle.wkt_grammar.specs.declared.table.SlotName.TheVariants as slots
use Rattle.wkt_grammar.specs.declared.table.Keyword.TheVariants as keywords
use Rattle.wkt_grammar.specs.declared.table.Takes.TheVariants as kinds
use Rattle.wkt_grammar.specs.Denotes.{geodetic_fields, DenotesGeodeticFrame, DenotesPrimeMeridian}
use Rattle.wkt_grammar.proofs.Leaves.{text_law}
use Rattle.wkt_grammar.proofs.Nodes.{geodetic_frame_law, prime_meridian_law}
use Rattle.crs_part.specs.declared.crs.Geodetic.{Geodetic}
use Rattle.wkt_build.specs.Reads.{BuildsSome}
use Rattle.wkt_build.specs.Rest.{BuildsRest, ending_fields, ending_row}
use Rattle.wkt_build.proofs.Held.{held, kept}
use Rattle.wkt_build.proofs.Rows.{first_one, made_node, then_maybe, then_one, Made}
use Rattle.wkt_build.proofs.crs.build_geodetic.Goals as goal

pub returns-clause-builds : goal.returns-clause-builds
returns-clause-builds c =
    let two = c.in_ok-datum-2.ensures in
    let three = c.in_ok-datum-3.ensures in
    let d = c.in_ok-datum-3.datum in
    let m = c.in_ok-datum-3.prime_meridian in
    let same = ap (λ p. p.1) three.0 in
    let e = c.in_ok-datum-3.ending in
    let start = c.take_one-2.new.cursor in
    let end = c.take_maybe.new.cursor in
    let v : Geodetic = record { kind = c.args.kind; name = c.in_ok-name.name; datum = d; prime_meridian = m; system = e.system; axes = e.axes; unit = e.unit; usages = e.usages; ids = e.ids; remark = e.remark } in
    made_node nodes.GeodeticCrs geodetic_fields c.args.cursor.now c.pass-2.new.cursor v c.pass.ensures.left
    (first_one slots.Name text_law c.pass.new.cursor c.in_ok-name.name c.in_ok-name.ensures.builds
    (then_one slots.Datum geodetic_frame_law c.take_one.new.cursor d
    (kept (Made kinds.GeodeticDatum DenotesGeodeticFrame c.take_one.new.cursor start) c.in_ok-datum.datum d (ap (λ p. p.0) three.0 ∙ two.0) c.in_ok-datum.ensures.builds)
    (then_maybe slots.PrimeMeridian prime_meridian_law refl start m
    (λ k. held (BuildsSome (kinds.Node keywords.PrimeMeridian nodes.PrimeMeridian) DenotesPrimeMeridian start end) c.take_maybe.result c.in_ok-datum-2.prime_meridian m two.1 same (c.take_maybe.ensures.some k))
    (λ k. subst (λ r. OnOk r (end ≡ start)) two.1 (c.take_maybe.ensures.none k))
    (λ k. held (λ r. IfOk r (λ o. o ≡ None)) c.take_maybe.result c.in_ok-datum-2.prime_meridian m two.1 same (c.take_maybe.ensures.absent k))
    (held (BuildsRest ending_row ending_fields end c.take_ending.new.cursor) c.take_ending.result e e three.1 refl c.take_ending.ensures.builds)))) c.pass-2.ensures.left
