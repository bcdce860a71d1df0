use Rattle.std.proofs.Common.{sym, ◌∙◌}
use Rattle.wkt_tree.proofs.Exclusion.{fault_no}
use Rattle.wkt_crs.proofs.Texts.{spelled_clean, denoted, spells_of, parts_of}
use Rattle.wkt_crs.proofs.reading.read_spelled.Goals as goal

pub unreachable-requires : goal.unreachable-requires
unreachable-requires c = absurd (fault_no c.args.text.now _ c.in-Err.field-0 c.in-Err.ensures.err c.requires.1.outline)

pub returns : goal.returns
returns c =
    let clean = spelled_clean c.args.text.now c.in-Ok.outline c.requires.0 c.in-Ok.ensures.ok.0 c.in-Ok.ensures.ok.1 c.requires.1 in
    let d = denoted c.args.text.now c.in-Ok.outline c.in-Ok-build_parts.parts c.in-Ok.ensures.ok.0 c.in-Ok.ensures.ok.1 clean c.in-Ok-build_parts.ensures in
    spells_of c.args.text.now c.in-Ok-build_parts.parts c.in-Ok-check.crs d c.in-Ok-check.ensures.ok

pub unreachable-requires-in-Err-check : goal.unreachable-requires-in-Err-check
unreachable-requires-in-Err-check c =
    let clean = spelled_clean c.args.text.now c.in-Ok.outline c.requires.0 c.in-Ok.ensures.ok.0 c.in-Ok.ensures.ok.1 c.requires.1 in
    let d = denoted c.args.text.now c.in-Ok.outline c.in-Ok-build_parts.parts c.in-Ok.ensures.ok.0 c.in-Ok.ensures.ok.1 clean c.in-Ok-build_parts.ensures in
    let e = sym c.in-Err-check.is ∙ c.check.ensures.only c.requires.0 (parts_of c.args.text.now c.in-Ok-build_parts.parts c.requires.0 d c.requires.1) in
    absurd cc
