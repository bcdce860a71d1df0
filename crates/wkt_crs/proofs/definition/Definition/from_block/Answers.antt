use Rattle.std.proofs.Common.{arith}
use Rattle.wkt_crs.proofs.FromText.{seen_fault, seen_only}
use Rattle.wkt_crs.proofs.Recognized as recognized
use Rattle.wkt_crs.proofs.definition.Definition.from_block.Goals as goal

pub returns-in_default-clause-slot : goal.returns-in_default-clause-slot
returns-in_default-clause-slot c = λ f short first. c.read_canonical.ensures.slot f first

-- bytes that are recognized as canonical have no fault of their tokens or slots

pub returns-clause-fault : goal.returns-clause-fault
returns-clause-fault c =
    let short = c.if-bytes-gt-MAX.false in
    seen_fault c.seen_in_block.result c.args.bytes.now (omega (arith, short)) c.seen_in_block.ensures.fault

pub returns-clause-only : goal.returns-clause-only
returns-clause-only c = λ d. seen_only c.seen_in_block.result c.args.bytes.now c.seen_in_block.ensures.ok c.seen_in_block.ensures.fault d

pub returns-clause-text : goal.returns-clause-text
returns-clause-text c = λ f short first. absurd (recognized.no_text_fault f c.in-Some.ensures short first)

pub returns-clause-slot : goal.returns-clause-slot
returns-clause-slot c = λ f short first. absurd (recognized.no_slot_fault f c.in-Some.ensures short first)
