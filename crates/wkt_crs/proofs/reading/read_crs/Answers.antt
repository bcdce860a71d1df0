use Rattle.std.proofs.Common.{Ok, Err, sym, ap, ◌∙◌}
use Rattle.std.proofs.Common.{inl}
use Rattle.crs_value.proofs.Wholes.{same_crs}
use Rattle.wkt_tree.proofs.Exclusion.{fault_no}
use Rattle.wkt_crs.specs.declared.fault.ReadFault.TheVariants as fault
use Rattle.wkt_crs.proofs.Texts.{no_slot, one_slot, slot_told, clean_told, denoted, spells_of, parts_of, broken_told}
use Rattle.wkt_crs.proofs.reading.read_crs.Goals as goal

pub returns-in-Err-clause-only : goal.returns-in-Err-clause-only
returns-in-Err-clause-only c = λ v s. absurd (fault_no c.args.text.now _ c.in-Err.fault c.in-Err.ensures.err s.outline)

pub returns-in-Err-clause-fault : goal.returns-in-Err-clause-fault
returns-in-Err-clause-fault c = c.in-Err.ensures.err

pub returns-in-Err-clause-slot : goal.returns-in-Err-clause-slot
returns-in-Err-clause-slot c = λ f s. absurd (fault_no c.args.text.now _ c.in-Err.fault c.in-Err.ensures.err s.outline)

pub returns-in-Err-check_slots-clause-only : goal.returns-in-Err-check_slots-clause-only
returns-in-Err-check_slots-clause-only c = λ v s.
    absurd (no_slot c.args.text.now v c.in-Err-check_slots.fault s (slot_told c.args.text.now c.in-Ok.outline c.in-Err-check_slots.fault c.in-Ok.ensures.ok.0 c.in-Ok.ensures.ok.1 c.in-Err-check_slots.ensures.err))

pub returns-in-Err-check_slots-clause-fault : goal.returns-in-Err-check_slots-clause-fault
returns-in-Err-check_slots-clause-fault c = slot_told c.args.text.now c.in-Ok.outline c.in-Err-check_slots.fault c.in-Ok.ensures.ok.0 c.in-Ok.ensures.ok.1 c.in-Err-check_slots.ensures.err

pub returns-in-Err-check_slots-clause-slot : goal.returns-in-Err-check_slots-clause-slot
returns-in-Err-check_slots-clause-slot c = λ f s.
    ap (λ g. Err (fault.Slot g)) (one_slot c.args.text.now c.in-Err-check_slots.fault f (slot_told c.args.text.now c.in-Ok.outline c.in-Err-check_slots.fault c.in-Ok.ensures.ok.0 c.in-Ok.ensures.ok.1 c.in-Err-check_slots.ensures.err) s)

pub returns-in-Err-build_parts-clause-fault : goal.returns-in-Err-build_parts-clause-fault
returns-in-Err-build_parts-clause-fault c = tt

pub returns-in-Err-build_parts-clause-slot : goal.returns-in-Err-build_parts-clause-slot
returns-in-Err-build_parts-clause-slot c = λ f s. absurd (clean_told c.args.text.now c.in-Ok.outline f c.in-Ok.ensures.ok.0 c.in-Ok.ensures.ok.1 c.in_default.ensures.ok s)

pub returns-in-Ok-check-clause-found : goal.returns-in-Ok-check-clause-found
returns-in-Ok-check-clause-found c =
    let d = denoted c.args.text.now c.in-Ok.outline c.in-Ok-build_parts.parts c.in-Ok.ensures.ok.0 c.in-Ok.ensures.ok.1 c.in_default.ensures.ok c.in-Ok-build_parts.ensures in
    spells_of c.args.text.now c.in-Ok-build_parts.parts c.in-Ok-check.crs d c.in-Ok-check.ensures.ok

pub returns-in-Ok-check-clause-only : goal.returns-in-Ok-check-clause-only
returns-in-Ok-check-clause-only c = λ v s.
    let d = denoted c.args.text.now c.in-Ok.outline c.in-Ok-build_parts.parts c.in-Ok.ensures.ok.0 c.in-Ok.ensures.ok.1 c.in_default.ensures.ok c.in-Ok-build_parts.ensures in
    inl (ap Ok (same_crs c.in-Ok-check.crs v (c.in-Ok-check.ensures.ok ∙ sym (parts_of c.args.text.now c.in-Ok-build_parts.parts v d s))))

pub returns-in-Ok-check-clause-slot : goal.returns-in-Ok-check-clause-slot
returns-in-Ok-check-clause-slot c = λ f s. absurd (clean_told c.args.text.now c.in-Ok.outline f c.in-Ok.ensures.ok.0 c.in-Ok.ensures.ok.1 c.in_default.ensures.ok s)

pub returns-in-Err-check-clause-only : goal.returns-in-Err-check-clause-only
returns-in-Err-check-clause-only c = λ v s.
    let d = denoted c.args.text.now c.in-Ok.outline c.in-Ok-build_parts.parts c.in-Ok.ensures.ok.0 c.in-Ok.ensures.ok.1 c.in_default.ensures.ok c.in-Ok-build_parts.ensures in
    let e = sym c.in-Err-check.is ∙ c.check.ensures.only v (parts_of c.args.text.now c.in-Ok-build_parts.parts v d s) in
    absurd cc

pub returns-in-Err-check-clause-fault : goal.returns-in-Err-check-clause-fault
returns-in-Err-check-clause-fault c =
    let d = denoted c.args.text.now c.in-Ok.outline c.in-Ok-build_parts.parts c.in-Ok.ensures.ok.0 c.in-Ok.ensures.ok.1 c.in_default.ensures.ok c.in-Ok-build_parts.ensures in
    broken_told c.args.text.now c.in-Ok.outline c.in-Ok-build_parts.parts c.in-Err-check.broken c.keyword_place.result c.in-Ok.ensures.ok.0 c.in-Ok.ensures.ok.1 d ((c.check.ensures.broken c.in-Err-check.broken).0 c.in-Err-check.is) c.keyword_place.ensures

pub returns-in-Err-check-clause-slot : goal.returns-in-Err-check-clause-slot
returns-in-Err-check-clause-slot c = λ f s. absurd (clean_told c.args.text.now c.in-Ok.outline f c.in-Ok.ensures.ok.0 c.in-Ok.ensures.ok.1 c.in_default.ensures.ok s)
